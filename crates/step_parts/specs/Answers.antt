-- The code's answers as the network's. Assumes nothing.
use Rattle.std.specs.Prelude.{ℕ, replicate, Result, Ok, Err}
use Rattle.record.specs.declared.Record.{Record}
use Rattle.refusals.specs.declared.Refusal.{Refusal}
use Rattle.refusals.specs.Numbers.{number_of}
use Rattle.reset.specs.State.{Mode, normal, mute, stand_by}
use Rattle.reset.specs.Steps.{Entry, Answer, refused, entry, mode_after}
use Rattle.station.specs.declared.Mode.{Mode as CodeMode}
use Rattle.station.specs.declared.Mode.TheVariants.{Normal, Mute, StandBy}
use Rattle.step_parts.specs.declared.answer.Accepted.{Accepted}
use Rattle.step_parts.specs.declared.answer.Accepted.TheVariants.{Entry as Made, InMode as Turned}

abbrev pub mode_code : Mode → CodeMode
mode_code normal = Normal
mode_code mute = Mute
mode_code stand_by = StandBy

-- the record of an accepted entry; its news is not in it
abbrev pub event_record : Entry → Record
event_record e = record { kind = e.kind; station = e.station; peer = e.peer; phase = e.phase; register = e.register; counts = e.counts }

-- what stands in the record's place where there is no entry
abbrev pub no_record : Record
no_record = record { kind = 0; station = 0; peer = 0; phase = 0; register = 0; counts = replicate 8 0 }

-- a refusal's number; an accepted entry, with the news of a receipt and else 0; the mode and phase after
pub data Told : Type 0 where
  Refused : ℕ → Told
  Entered : ℕ → Told
  InMode : CodeMode → ℕ → Told

-- what a step tells, with the record of an accepted entry beside it
pub record SteppedView : Type 0 where
  pub answer : Told
  pub event : Record

-- a refusal with its number; an entry with its news and its record; mode and phase after
abbrev pub stepped_of : Answer → SteppedView
stepped_of (refused k) = record { answer = Refused k; event = no_record }
stepped_of (entry e) = record { answer = Entered e.news; event = event_record e }
stepped_of (mode_after i m p) = record { answer = InMode (mode_code m) p; event = no_record }

-- the same of an answer as the code has it
abbrev pub step_view : Result Accepted Refusal → SteppedView
step_view (Err r) = record { answer = Refused (number_of r); event = no_record }
step_view (Ok (Made e b)) = record { answer = Entered b; event = e }
step_view (Ok (Turned m p)) = record { answer = InMode m p; event = no_record }
