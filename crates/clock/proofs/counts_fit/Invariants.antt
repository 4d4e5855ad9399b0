use Prim.Native.Nat.{ℕ, ◌≤◌}
use mathlib.Core.Path.{◌≡◌}
use lib.Dec.{leb}
use lib.ListN.{get_or}
use Rattle.codec.specs.Every.{every}
use Rattle.clock.specs.Range.{ceiling_of}
use Rattle.clock.proofs.counts_fit.Given as goal

abbrev pub invariant-loop-j : goal.invariant-loop-j
invariant-loop-j l = (l.j ≤ 8) × (l.ok ≡ every l.j (λ (k : ℕ). leb (get_or l.a k 0) (ceiling_of l.n l.t k)))
