use Prim.Native.Nat.{ℕ, ◌%◌, ◌<◌}
use mathlib.Core.Path.{◌≡◌}
use mathlib.Core.List.{List}
use lib.ListN.{get_or}
use Rattle.phase_order.proofs.first_join.Given as goal

-- up to place i none joins
pub record None (table reached : List ℕ) (i : ℕ) : Type 0 where
  pub even : (j : ℕ) → j < i → get_or reached (j % 8) 0 ≡ 0 → get_or table j 0 % 2 ≡ 0

abbrev pub invariant-loop-i : goal.invariant-loop-i
invariant-loop-i l = None l.table l.reached l.i
