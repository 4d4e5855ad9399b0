-- The numbers that stand for refusals (docs/SPECIFICATION.md has the table of their causes). Assumes nothing.
use Rattle.std.specs.Prelude.{ℕ, Result, Ok, Err}
use Rattle.refusals.specs.declared.Refusal.{Refusal}
use Rattle.refusals.specs.declared.Refusal.TheVariants.{Malformed, IllFormedState, NetworkRule, NoSuchStation, ModeForbids, UsedUp, EmptyLink, NoMorePhases, DifferentPhases, BufferLength, NoSuchRecord, IllKept, SheetTooLong}

-- no refusal has number 0 or 9
abbrev pub number_of : Refusal → ℕ
number_of Malformed = 1
number_of IllFormedState = 2
number_of NetworkRule = 3
number_of NoSuchStation = 4
number_of ModeForbids = 5
number_of UsedUp = 6
number_of EmptyLink = 7
number_of NoMorePhases = 8
number_of DifferentPhases = 10
number_of BufferLength = 11
number_of NoSuchRecord = 12
number_of IllKept = 13
number_of SheetTooLong = 14

-- what a call that only writes, or only tests, tells: 0 when it is done
abbrev pub told : Result Unit Refusal → ℕ
told (Ok _) = 0
told (Err r) = number_of r
