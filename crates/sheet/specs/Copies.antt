-- Copies of records from which verdicts are taken. Assumes nothing.
use Rattle.std.specs.Prelude.{ℕ, ◌*◌, ◌≤◌, ◌<◌, List, length, get_or}
use Rattle.sheet.specs.Sheet.{event_of}

-- the first n copies are there, and stand for events of stations with own counts
pub record Sound (d : List ℕ) (n : ℕ) : Type 0 where
  pub long : n * 32 ≤ length d
  pub station : (i : ℕ) → i < n → (event_of d i).station < 8
  pub own : (i : ℕ) → i < n → 1 ≤ get_or (event_of d i).counts (event_of d i).station 0
