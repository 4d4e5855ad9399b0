-- The records of an archive that are unordered (concurrent) with one of them (document 01, "Archive blocks"), in the order of document 02, CR 4. Assumes nothing.
use Rattle.std.specs.Prelude.{ℕ, ◌+◌, ◌<◌, ◌≡◌, ◌↔◌, ◌⊎◌, Bool, true, false, ◌&&◌, cond, eqb, ltb, length, get_or, drop, Result, Ok, Err}
use mathlib.Core.List.{List, ◌++◌, Memᴰ}
use Rattle.codec.specs.Every.{count_below, greatest}
use Rattle.lists.specs.Lists.{passing, joined, Sorted}
use Rattle.clock.specs.Order.{verdict_of}
use Rattle.clock.specs.declared.Verdict.{Verdict}
use Rattle.clock.specs.declared.Verdict.TheVariants.{Before, After, Same, Unordered}
use Rattle.record.specs.declared.Record.{Record}
use Rattle.archive.specs.Archive.{archive_test, records}
use Rattle.events.specs.Events.{event_at, station_at, own_at}
use Rattle.refusals.specs.declared.Refusal.{Refusal}
use Rattle.refusals.specs.declared.Refusal.TheVariants.{Malformed, BufferLength, NoSuchRecord}

-- ---- which records
abbrev pub is_unordered_verdict : Verdict → Bool
is_unordered_verdict Before = false
is_unordered_verdict After = false
is_unordered_verdict Same = false
is_unordered_verdict Unordered = true

-- two events of one phase whose timestamps are unordered; nothing else of them is looked at
unfoldable pub concurrent : Record → Record → Bool
concurrent x y = eqb x.phase y.phase && is_unordered_verdict (verdict_of x.counts y.counts)

-- the archive has a record k, and it is concurrent with event x
unfoldable pub has_concurrent : List ℕ → Record → ℕ → Bool
has_concurrent a x k = ltb k (records a) && concurrent x (event_at a k)

-- .. with record r
abbrev pub is_unordered : List ℕ → ℕ → ℕ → Bool
is_unordered a r = has_concurrent a (event_at a r)

-- ---- how many
-- how many records are concurrent with event x, and with record r
unfoldable pub concurrent_count : List ℕ → Record → ℕ
concurrent_count a x = count_below (records a) (has_concurrent a x)

abbrev pub unordered_count : List ℕ → ℕ → ℕ
unordered_count a r = concurrent_count a (event_at a r)

-- ---- in which order
-- those of station s, and of these those with own count c
abbrev pub of_station : List ℕ → Record → ℕ → ℕ → Bool
of_station a x s k = has_concurrent a x k && eqb (station_at a k) s

abbrev pub of_pair : List ℕ → Record → ℕ → ℕ → ℕ → Bool
of_pair a x s c k = of_station a x s k && eqb (own_at a k) c

-- by station, then own count, both rising, up to the greatest of the archive; equal pairs by number
unfoldable pub concurrent_list : List ℕ → Record → List ℕ
concurrent_list a x = joined 8 (λ (s : ℕ). joined (greatest (records a) (own_at a) + 1) (λ (c : ℕ). passing (records a) (of_pair a x s c)))

-- the unordered list of record r
abbrev pub unordered_list : List ℕ → ℕ → List ℕ
unordered_list a r = concurrent_list a (event_at a r)

-- ---- the call
-- of a tested archive: a list of too few places is 11; else how many there are
unfoldable pub list_answer : List ℕ → Record → ℕ → Result ℕ Refusal
list_answer a x places = cond (ltb places (concurrent_count a x)) (Err BufferLength) (Ok (concurrent_count a x))

-- bytes that are no archive are 1, no record r is 12
unfoldable pub unordered_answer : List ℕ → ℕ → ℕ → Result ℕ Refusal
unordered_answer a r places = cond (archive_test a) (cond (ltb r (records a)) (list_answer a (event_at a r) places) (Err NoSuchRecord)) (Err Malformed)

-- a lent list after an answer: the numbers in its first places, the others left; as it was after a refusal
abbrev pub list_after : List ℕ → Record → List ℕ → Result ℕ Refusal → List ℕ
list_after a x before (Ok n) = concurrent_list a x ++ drop n before
list_after a x before (Err k) = before

-- the whole promise
pub record UnorderedList (a : List ℕ) (r : ℕ) (before after : List ℕ) (answer : Result ℕ Refusal) : Type 0 where
  pub answers : answer ≡ unordered_answer a r (length before)
  pub leaves : after ≡ list_after a (event_at a r) before (unordered_answer a r (length before))

-- ---- what is claimed of the list
-- record x comes before record y: by station, then by own count, then by number
abbrev pub Ahead : List ℕ → ℕ → ℕ → Type 0
Ahead a x y = (station_at a x < station_at a y) ⊎ ((station_at a x ≡ station_at a y) × ((own_at a x < own_at a y) ⊎ ((own_at a x ≡ own_at a y) × (x < y))))

-- a list of the records that are concurrent with record r
pub record Lists (a : List ℕ) (r : ℕ) (l : List ℕ) : Type 0 where
  -- a number is in it exactly when its record is concurrent with record r
  pub members : (k : ℕ) → Memᴰ k l ↔ (is_unordered a r k ≡ true)
  -- none stands in two places
  pub once : (i j : ℕ) → i < length l → j < length l → get_or l i 0 ≡ get_or l j 0 → i ≡ j
  -- by station, own count and number
  pub sorted : Sorted (Ahead a) l

-- of every archive and record: the list is one of them, and the only one, as long as there are many
pub record OneList (a : List ℕ) (r : ℕ) : Type 0 where
  pub lists : Lists a r (unordered_list a r)
  pub only : (l : List ℕ) → Lists a r l → l ≡ unordered_list a r
  pub many : length (unordered_list a r) ≡ unordered_count a r

abbrev pub EveryList : Type 0
EveryList = (a : List ℕ) → archive_test a ≡ true → (r : ℕ) → OneList a r
