-- The number that a host's call returns for each answer. A refusal is its own number; the others start at 100 or 1,000. Assumes nothing.
use Rattle.std.specs.Prelude.{◌≡◌, ℕ, ◌+◌, ◌*◌, Bool, true, false, Result, Ok, Err}
use Rattle.clock.specs.declared.Verdict.{Verdict}
use Rattle.clock.specs.Numbers.{order_number}
use Rattle.refusals.specs.declared.Refusal.{Refusal}
use Rattle.refusals.specs.Numbers.{number_of}
use Rattle.entries.specs.declared.EntriesRead.{EntriesRead}
use Rattle.reset.specs.Steps.{Answer, refused, entry, mode_after}
use Rattle.area_calls.specs.Calls.{RestAnswer, yes, no, rest_refused, ReceiptsAnswer, receipts_left, receipts_refused}
use Rattle.station.specs.Image.{mode_byte}
use Rattle.station.specs.View.{mode_view}
use Rattle.step_parts.specs.Answers.{stepped_of, Told, Refused, Entered, InMode}

-- ---- the numbers by name
-- bytes of a record and of a header's fields, and the greatest number that a call can return
abbrev pub record_length : ℕ
record_length = 32

abbrev pub fields_length : ℕ
fields_length = 83

abbrev pub greatest : ℕ
greatest = 18446744073709551615

-- the refusals of the host's own tests: fields or bytes that make no header; a buffer that is too small or not as long as asked
abbrev pub malformed : ℕ
malformed = 1

abbrev pub area_length : ℕ
area_length = 11

-- the answer of an entry, which tells a receipt's news beside it, and where answers begin that tell numbers: a mode beside modes × phase, a count
-- beside counts × number
abbrev pub entry_made : ℕ
entry_made = 100

abbrev pub tells : ℕ
tells = 1000

abbrev pub modes : ℕ
modes = 4

abbrev pub counts : ℕ
counts = 16

-- ---- of each answer
-- a step: 100 + news for an accepted entry, and news is 0 but for a receipt's, which is up to 7; 1,000 + 4 × phase + mode for the mode and phase
-- after; the mode is 0 normal, 1 mute, 2 stand-by
abbrev pub step_number : Answer → ℕ
step_number (refused k) = k
step_number (entry e) = entry_made + e.news
step_number (mode_after i m p) = tells + (modes * p + mode_byte m)

-- answers of steps that a host is told alike: equal but for the record of an entry, which is written beside the number, and the
-- station, which the call names
abbrev pub Alike : Answer → Answer → Type 0
Alike o q = (stepped_of o).answer ≡ (stepped_of q).answer

-- rest: 100 yes, 101 no
abbrev pub rest_number : RestAnswer → ℕ
rest_number yes = 100
rest_number no = 101
rest_number (rest_refused k) = k

-- receipts to rest: 1,000 + how many are left
abbrev pub receipts_number : ReceiptsAnswer → ℕ
receipts_number (receipts_left k) = tells + k
receipts_number (receipts_refused k) = k

-- a verdict: 100 before, 101 after, 102 same, 103 unordered
abbrev pub verdict_number : Result Verdict Refusal → ℕ
verdict_number (Ok v) = order_number v
verdict_number (Err r) = number_of r

-- an entries block read: 1,000 + 16 × number + count
abbrev pub block_number : Result EntriesRead Refusal → ℕ
block_number (Ok b) = tells + (counts * b.number + b.count)
block_number (Err r) = number_of r

-- how many records an archive has, and how many an unordered list: 1,000 + the count
abbrev pub counted_number : Result ℕ Refusal → ℕ
counted_number (Ok n) = tells + n
counted_number (Err r) = number_of r

-- the same numbers, by what the code tells
abbrev pub code_number : Told → ℕ
code_number (Refused k) = k
code_number (Entered b) = entry_made + b
code_number (InMode m p) = tells + (modes * p + mode_byte (mode_view m))

abbrev pub is_entry : Told → Bool
is_entry (Refused k) = false
is_entry (Entered b) = true
is_entry (InMode m p) = false
