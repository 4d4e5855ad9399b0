use Prim.Native.Nat.{ℕ, ◌≤◌}
use mathlib.Core.Path.{◌≡◌}
use mathlib.Core.Bool.{◌&&◌}
use lib.Dec.{leb, ltb}
use lib.ListN.{get_or}
use Rattle.codec.specs.Every.{some}
use Rattle.phase_order.proofs.meets.Given as goal

abbrev pub invariant-loop-k : goal.invariant-loop-k
invariant-loop-k l = (l.k ≤ 8) × (l.met ≡ some l.k (λ (k : ℕ). ltb 0 (get_or l.asked k 0) && leb (get_or l.asked k 0) (get_or l.counts k 0)))
