use Prim.Native.Nat.{ℕ, ◌≤◌}
use mathlib.Core.Path.{◌≡◌}
use mathlib.Core.Bool.{true, ◌||◌}
use lib.Dec.{eqb}
use Rattle.codec.specs.Every.{every}
use Rattle.reach.specs.Order.{has_earlier}
use Rattle.reach.proofs.in_order.Given as goal

abbrev pub invariant-loop-j : goal.invariant-loop-j
invariant-loop-j l = (1 ≤ l.j) × (every l.j (λ (k : ℕ). eqb k 0 || has_earlier l.limits k) ≡ true)
