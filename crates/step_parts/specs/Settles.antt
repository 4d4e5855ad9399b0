-- What is written of a station that the reset rules ran at. Assumes nothing.
use Rattle.std.specs.Prelude.{ℕ, ◌≡◌, List, ◌++◌, Ok}
use Rattle.reset.specs.Config.{Config}
use Rattle.reset.specs.Clock.{vector}
use Rattle.reset.specs.State.{State, set_station}
use Rattle.reset.specs.Steps.{mode_after}
use Rattle.station.specs.View.{mode_view, station_view}
use Rattle.reset_rules.specs.Turn.{put_items}
use Rattle.reset_rules.specs.Slots.{control_of}
use Rattle.reset_rules.specs.declared.Turned.{Turned}
use Rattle.area.specs.Layout.{image}
use Rattle.step_parts.specs.Answers.{stepped_of, step_view}
use Rattle.step_parts.specs.declared.answer.Accepted.{Accepted}

-- the record that the rules led to is written, and its control items go on every link out of i; m is the table of limits
pub record Settles (m : List (List ℕ)) (i : ℕ) (t : Turned) (a : List ℕ) (r : Accepted) (b : List ℕ) : Type 0 where
  pub answer : step_view (Ok r) ≡ stepped_of (mode_after i (mode_view t.station.mode) t.station.phase)
  pub area : (c : Config) (s : State vector) → c.limits ≡ m → a ≡ image c s
      → b ≡ image c (put_items c (set_station s i (station_view t.station)) i (control_of t.first ++ control_of t.second))
