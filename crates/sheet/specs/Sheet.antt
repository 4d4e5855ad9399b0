-- The verdicts on many pairs of records of an archive in one go (document 02, CR 6: a sheet of pairs). Assumes nothing.
use Rattle.std.specs.Prelude.{ℕ, ◌+◌, ◌*◌, ◌/◌, ◌%◌, ◌<◌, ◌≡◌, List, ◌++◌, Bool, ◌&&◌, cond, eqb, ltb, length, get_or, drop, Result, Ok, Err}
use Rattle.codec.specs.Every.{every, count_below, blank}
use Rattle.codec.specs.Rows.{upto}
use Rattle.clock.specs.declared.Verdict.{Verdict}
use Rattle.record.specs.Record.{parse_record}
use Rattle.record.specs.declared.Record.{Record}
use Rattle.archive.specs.Archive.{archive_test, blocks, records}
use Rattle.clock.specs.Numbers.{order_number}
use Rattle.refusals.specs.declared.Refusal.{Refusal}
use Rattle.refusals.specs.declared.Refusal.TheVariants.{Malformed, BufferLength, NoSuchRecord, IllKept, SheetTooLong}
use Rattle.well_kept.specs.WellKept.{well_kept}
use Rattle.phase_order.specs.PhaseOrder.{verdict_between}
use Rattle.phase_order.specs.ByNumber.{order_of}
use Rattle.fetch.specs.Fetch.{copy_at, Collected, fetched, holds_named}

-- ---- a sheet: the record numbers l, of which pair i has numbers i * 2 and i * 2 + 1
abbrev pub most_numbers : ℕ
most_numbers = 128

abbrev pub pairs : List ℕ → ℕ
pairs l = length l / 2

-- whole pairs, and each number is of a record
unfoldable pub all_named : List ℕ → List ℕ → Bool
all_named a l = eqb (length l % 2) 0 && every (length l) (λ (i : ℕ). ltb (get_or l i 0) (records a))

-- ---- the verdicts
-- what is fetched: the last count, and the copies of the named records
unfoldable pub gathered : List ℕ → List ℕ → Collected
gathered a l = fetched a l (blank 4096)

-- the event of copy i
unfoldable pub event_of : List ℕ → ℕ → Record
event_of d i = parse_record (copy_at d i)

-- the verdict on pair i, whose two records are taken from copies d alone
unfoldable pub pair_verdict : List ℕ → List ℕ → ℕ → Verdict
pair_verdict a d i = verdict_between a (event_of d (i * 2)) (event_of d (i * 2 + 1))

-- the verdicts on n pairs, in their order, a number each
unfoldable pub pair_verdicts : List ℕ → List ℕ → ℕ → List ℕ
pair_verdicts a d n = upto n (λ (i : ℕ). order_number (pair_verdict a d i))

-- ---- the call
-- fewer places than pairs are 11; else how many blocks were fetched
unfoldable pub pairs_answer : List ℕ → List ℕ → ℕ → Result ℕ Refusal
pairs_answer a l places = cond (ltb places (pairs l)) (Err BufferLength) (Ok (gathered a l).count)

-- before that: over 128 numbers are 14, bytes that are no archive 1, half a pair or a number of no record 12, an archive that is not well kept 13
unfoldable pub sheet_answer : List ℕ → List ℕ → ℕ → Result ℕ Refusal
sheet_answer a l places =
    cond (ltb most_numbers (length l))
    (Err SheetTooLong)
    (cond (archive_test a)
    (cond (all_named a l)
    (cond (well_kept a) (pairs_answer a l places) (Err IllKept))
    (Err NoSuchRecord))
    (Err Malformed))

-- the lent places after an answer: the verdicts in the first, the others left; as they were after a refusal
abbrev pub sheet_after : List ℕ → List ℕ → List ℕ → Result ℕ Refusal → List ℕ
sheet_after a l before (Ok n) = pair_verdicts a (gathered a l).copies (pairs l) ++ drop (pairs l) before
sheet_after a l before (Err k) = before

-- the whole promise
pub record Answers (a l before after : List ℕ) (answer : Result ℕ Refusal) : Type 0 where
  pub answers : answer ≡ sheet_answer a l (length before)
  pub leaves : after ≡ sheet_after a l before (sheet_answer a l (length before))

-- ---- what is claimed of a sheet that is answered
pub record Tells (a l before : List ℕ) (n : ℕ) : Type 0 where
  -- as many blocks are fetched as hold a named record, whatever the pairs repeat
  pub distinct : n ≡ count_below (blocks a) (holds_named a l)
  -- the verdict on two numbers alone is the same
  pub verdicts : (i : ℕ) → i < pairs l
      → (v : Verdict) × (order_of a (get_or l (i * 2) 0) (get_or l (i * 2 + 1) 0) ≡ Ok v) × (get_or (sheet_after a l before (Ok n)) i 0 ≡ order_number v)
  -- the places behind the pairs' are left
  pub behind : drop (pairs l) (sheet_after a l before (Ok n)) ≡ drop (pairs l) before

abbrev pub EverySheet : Type 0
EverySheet = (a l before : List ℕ) (n : ℕ) → sheet_answer a l (length before) ≡ Ok n → Tells a l before n
