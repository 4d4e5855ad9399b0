-- A reader that was made of bytes, and then opened and moved on in any order: what is promised of it. Assumes nothing.
use Rattle.std.specs.Prelude.{ℕ, ◌+◌, ◌<◌, ◌≡◌, List, [], ◌∷◌, true, cond, eqb, ltb, length}
use Rattle.record.specs.Record.{well_made_record}
use Rattle.archive.specs.Archive.{records, record_at, find_record, found_record}
use Rattle.reader.specs.Reading.{Place, held, tested_part, no_archive, no_such_record, stays, goes, standing, opened, advanced}
use Rattle.reader.specs.declared.Reader.{Reader}

-- what `new` promises of the reader that it makes of bytes
pub record MadeOf (b : List ℕ) (r : Reader) : Type 0 where
  pub holds : held r ≡ tested_part b
  pub first : r.at ≡ 0

-- ---- the calls that may move a reader
pub data Call : Type 0 where
  opens : ℕ → Call
  moves : Call

unfoldable pub answer_to : Reader → Call → Place
answer_to r (opens number) = opened r number
answer_to r moves = advanced r

-- the reader as these calls leave it, one after the other
unfoldable pub after_calls : Reader → List Call → Reader
after_calls r [] = r
after_calls r (c ∷ cs) = after_calls (standing r (answer_to r c)) cs

-- what the reader hands back
abbrev pub handed : Reader → List ℕ
handed r = record_at (held r) r.at

-- ---- by the bytes that it was made of
-- where the bytes have a record of that number it goes there; else it stays, and is refused by what `find` answers, 1 or 12
unfoldable pub as_found : List ℕ → ℕ → ℕ → Place
as_found b number at = cond (eqb (find_record b number) 0) (goes number) (stays at (find_record b number))

-- every call is answered as the bytes say
pub record Answers (b : List ℕ) (r : Reader) : Type 0 where
  pub holds : held r ≡ tested_part b
  pub opening : (number : ℕ) → opened r number ≡ as_found b number r.at
  pub moving : advanced r ≡ as_found b (r.at + 1) r.at
  pub handing : handed r ≡ found_record b r.at

-- on bytes that are no archive: the reader stands on nothing, and every call is refused by 1
pub record OnNothing (r : Reader) : Type 0 where
  pub holds : held r ≡ []
  pub opening : (number : ℕ) → opened r number ≡ stays r.at no_archive
  pub moving : advanced r ≡ stays r.at no_archive
  pub handing : handed r ≡ []
  pub leaving : (cs : List Call) → after_calls r cs ≡ r

-- on an archive: the reader stands on that archive and on a record of it, whose 32 bytes it hands back; and the number of records says where it goes
pub record OnRecord (b : List ℕ) (r : Reader) : Type 0 where
  pub holds : held r ≡ b
  pub there : r.at < records b
  pub opening : (number : ℕ) → opened r number ≡ cond (ltb number (records b)) (goes number) (stays r.at no_such_record)
  pub moving : advanced r ≡ cond (ltb (r.at + 1) (records b)) (goes (r.at + 1)) (stays r.at no_such_record)
  pub handing : handed r ≡ found_record b r.at
  pub whole : length (handed r) ≡ 32
  pub well_made : well_made_record (handed r) ≡ true

-- on a header alone: there is no record to stand on, and every call is refused by 12
pub record OnHeader (b : List ℕ) (r : Reader) : Type 0 where
  pub holds : held r ≡ b
  pub opening : (number : ℕ) → opened r number ≡ stays r.at no_such_record
  pub moving : advanced r ≡ stays r.at no_such_record
  pub handing : handed r ≡ []
  pub leaving : (cs : List Call) → after_calls r cs ≡ r
