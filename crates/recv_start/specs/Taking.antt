-- What a receipt finds in an area, and what it does to it. Assumes nothing.
use Rattle.std.specs.Prelude.{ℕ, ◌*◌, ◌+◌, ◌<◌, ◌≡◌, List, ◌∷◌, true, get_or, Result}
use Rattle.refusals.specs.declared.Refusal.{Refusal}
use Rattle.reset.specs.Config.{is_station, neighbours}
use Rattle.reset.specs.Clock.{vector}
use Rattle.reset.specs.State.{Item, Station, station_at, link_at}
use Rattle.reset.specs.Steps.{recv, bounded, do_mark, receive}
use Rattle.area.specs.Layout.{link_bytes, config_at, state_at, test}
use Rattle.step_parts.specs.Does.{Does}
use Rattle.step_parts.specs.declared.answer.Accepted.{Accepted}

-- what is known of an area before station i takes the first item of the link from its neighbour j
pub record Holds (a : List ℕ) (i j : ℕ) : Type 0 where
  pub tested : test a ≡ true
  pub station : is_station (config_at a) i ≡ true
  pub neighbour : neighbours (config_at a) i j ≡ true
  pub some : 0 < get_or (link_bytes a (j * 8 + i)) 0 0

-- the receipt of the control item that marks station i's record as x
abbrev pub TakesControl : Station vector → ℕ → ℕ → List ℕ → Result Accepted Refusal → List ℕ → Type 0
TakesControl x i j a r b =
    (y : Item vector) (q : List (Item vector)) → link_at (state_at a) j i ≡ y ∷ q → x.time ≡ (station_at (state_at a) i).time
    → receive (config_at a) i j (state_at a) (y ∷ q) ≡ bounded (config_at a) (state_at a) (do_mark (config_at a) i j x q (state_at a)) → Does (recv i j) a r b
