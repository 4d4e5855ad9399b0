-- What decides a send, and what it does to an area. Assumes nothing.
use Rattle.std.specs.Prelude.{ℕ, ◌≡◌, List, cond, leb, get_or, Ok}
use Rattle.clock.specs.Timestamp.{tick}
use Rattle.reset.specs.Config.{Config, places_of}
use Rattle.reset.specs.Clock.{vector}
use Rattle.reset.specs.State.{message, Station, State, done_seen, sent_to, set_station, put_on}
use Rattle.reset.specs.Steps.{may_send, sending, entry_of, entry}
use Rattle.area.specs.Layout.{image}
use Rattle.step_parts.specs.Answers.{stepped_of, step_view}
use Rattle.step_parts.specs.declared.answer.Accepted.{Accepted}

-- the refusal of a send from i, whose record is x, to its neighbour j, with the ceiling t, the link's limit and the items on it: 5, 6, 2, or 0 for none
unfoldable pub send_refusal : Station vector → ℕ → ℕ → ℕ → ℕ → ℕ → ℕ
send_refusal x t limit count i j =
    cond (may_send x.mode (done_seen x j))
    (cond (leb limit (sent_to x j)) 6 (cond (leb t (get_or x.time i 0)) 2 (cond (leb (places_of limit) count) 2 0)))
    5

-- the entry of a send, and the area after it
pub record Sends (x : Station vector) (i j g : ℕ) (a : List ℕ) (r : Accepted) (b : List ℕ) : Type 0 where
  pub answer : step_view (Ok r) ≡ stepped_of (entry (entry_of 2 i j g (sending i j x) 0))
  pub area : (c : Config) (s : State vector) → a ≡ image c s → b ≡ image c (put_on (set_station s i (sending i j x)) i j (message (tick i x.time) g))
