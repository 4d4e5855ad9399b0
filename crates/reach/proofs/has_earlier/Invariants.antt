use Prim.Native.Nat.{ℕ, ◌≤◌}
use mathlib.Core.Path.{◌≡◌}
use mathlib.Core.Bool.{true}
use lib.Dec.{eqb}
use Rattle.codec.specs.Every.{every}
use Rattle.reset.specs.Reach.{limit}
use Rattle.reach.proofs.has_earlier.Given as goal

abbrev pub invariant-loop-i : goal.invariant-loop-i
invariant-loop-i l = (l.i ≤ l.j) × (every l.i (λ (k : ℕ). eqb (limit l.limits k l.j) 0) ≡ true)
