-- The marks of the neighbours, by a row of limits and by the network. Assumes nothing.
use Prim.Native.Nat.{ℕ, ◌+◌, ◌<◌}
use mathlib.Core.Path.{◌≡◌, refl, ap}
use mathlib.Core.List.{List, []}
use mathlib.Core.Bool.{Bool, true, false, not, ◌||◌}
use native.Mathlib.Numerals.{add-one}
use lib.Dec.{eqb}
use lib.ListN.{get_or}
use Rattle.codec.specs.Every.{some}
use Rattle.codec.proofs.EveryLaws.{every_same}
use Rattle.reset.specs.Reach.{limit, linked}
use Rattle.reset.specs.Config.{Config, neighbours}
use Rattle.reset.specs.Steps.{every_neighbour, some_neighbour}
use Rattle.reset_rules.specs.Slots.{every_seen, some_seen}

pub some_empty : (p : ℕ → Bool) → some 0 p ≡ false
unfolding some
some_empty p = refl

pub some_turn : (n : ℕ) (p : ℕ → Bool) → some (n + 1) p ≡ (some n p || p n)
unfolding some
some_turn n p = rw add-one

twice : (b : Bool) → not (not b) ≡ b
twice true = refl
twice false = refl

module _ (c : Config) (i : ℕ) (row : List ℕ) (e : get_or c.limits i [] ≡ row) (marks : List Bool) where
  pub every_seen_lem : every_neighbour c i (λ (j : ℕ). get_or marks j false) ≡ every_seen row marks
  unfolding every_neighbour every_seen neighbours linked limit
  every_seen_lem = rw e (every_same 8 _ _ (λ (j : ℕ) (h : j < 8). ap (λ (b : Bool). b || get_or marks j false) (twice (eqb (get_or row j 0) 0))))

  pub some_seen_lem : some_neighbour c i (λ (j : ℕ). get_or marks j false) ≡ some_seen row marks
  unfolding some_neighbour some_seen neighbours linked limit
  some_seen_lem = rw e
