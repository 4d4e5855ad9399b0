-- What the host's steps return and leave. Assumes nothing.
use Rattle.std.specs.Prelude.{ℕ, ◌≡◌, List, cond, eqb, length}
use Rattle.record.specs.Record.{image_record}
use Rattle.reset.specs.Steps.{Step, Answer, refused, entry, mode_after}
use Rattle.step_parts.specs.Answers.{event_record, SteppedView}
use Rattle.area_calls.specs.Calls.{AreaStep, step_on}
use Rattle.host_numbers.specs.Numbers.{record_length, area_length, step_number, is_entry}

-- an accepted entry writes its record; every other answer leaves the 32 bytes
abbrev pub record_after : List ℕ → Answer → List ℕ
record_after d (refused k) = d
record_after d (entry e) = image_record (event_record e)
record_after d (mode_after i m p) = d

-- a step's number, and the area and the record's bytes afterwards
pub record HostStep : Type 0 where
  pub number : ℕ
  pub area : List ℕ
  pub event : List ℕ

abbrev pub told : AreaStep → List ℕ → HostStep
told o d = record { number = step_number o.answer; area = o.area; event = record_after d o.answer }

-- a record area of another length than 32 is 11, tried first
unfoldable pub host_step : Step → List ℕ → List ℕ → HostStep
host_step p a d = cond (eqb (length d) record_length) (told (step_on p a) d) (record { number = area_length; area = a; event = d })

-- the call of step p returned r, and left area b and record bytes f
pub record Returns (p : Step) (a d : List ℕ) (r : ℕ) (b f : List ℕ) : Type 0 where
  pub number : r ≡ (host_step p a d).number
  pub area : b ≡ (host_step p a d).area
  pub event : f ≡ (host_step p a d).event

-- the 32 bytes after an answer as the code has it
abbrev pub event_after : List ℕ → SteppedView → List ℕ
event_after d r = cond (is_entry r.answer) (image_record r.event) d
