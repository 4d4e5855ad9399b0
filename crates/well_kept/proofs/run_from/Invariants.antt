use Prim.Native.Nat.{ℕ}
use mathlib.Core.Path.{◌≡◌}
use mathlib.Core.List.{List}
use lib.ListN.{drop}
use Rattle.well_kept.specs.Keys.{runs_on, last_from}
use Rattle.well_kept.proofs.run_from.Given as goal

-- what is still to be looked at runs on behind the last key exactly when all does
pub record Runs (last : ℕ) (list : List ℕ) (before i : ℕ) : Type 0 where
  pub runs : runs_on last list ≡ runs_on before (drop i list)
  pub ends : last_from last list ≡ last_from before (drop i list)

abbrev pub invariant-loop-key : goal.invariant-loop-key
invariant-loop-key l = Runs l.last l.list l.latest l.key-index
