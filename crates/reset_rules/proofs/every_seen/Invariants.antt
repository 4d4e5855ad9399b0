use Prim.Native.Nat.{ℕ, ◌≤◌}
use mathlib.Core.Path.{◌≡◌}
use mathlib.Core.Bool.{false, ◌||◌}
use lib.Dec.{eqb}
use lib.ListN.{get_or}
use Rattle.codec.specs.Every.{every}
use Rattle.reset_rules.proofs.every_seen.Given as goal

abbrev pub invariant-loop-j : goal.invariant-loop-j
invariant-loop-j l = (l.j ≤ 8) × (l.ok ≡ every l.j (λ (k : ℕ). eqb (get_or l.row k 0) 0 || get_or l.marks k false))
