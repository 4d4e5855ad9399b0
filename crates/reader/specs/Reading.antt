-- A reader of an archive (document 01, "Archive blocks"): it stands on a lent archive and a record's number. Assumes nothing.
use Rattle.std.specs.Prelude.{ℕ, zero, suc, ◌+◌, List, [], ◌∷◌, cond, eqb, ltb, length, Option, None, Some}
use Rattle.archive.specs.Archive.{records, record_at, archive_test}
use Rattle.archive.specs.declared.Archive.{Archive}
use Rattle.reader.specs.declared.Reader.{Reader}

-- ---- on bytes
-- where a reader stands after it was opened or moved on: a refusal's number and where it was, or 0 and where it is now
pub record Place : Type 0 where
  pub at : ℕ
  pub refusal : ℕ

-- what a reader made of bytes stands on: the bytes where they are an archive, else nothing. Nothing is the empty part, which is no archive
unfoldable pub tested_part : List ℕ → List ℕ
tested_part b = cond (archive_test b) b []

-- refusals: what the reader was made of is no archive; there is no record of that number
abbrev pub no_archive : ℕ
no_archive = 1

abbrev pub no_such_record : ℕ
no_such_record = 12

-- refused, and at the same place
abbrev pub stays : ℕ → ℕ → Place
stays at refusal = record { at = at; refusal = refusal }

-- accepted, and at the place asked for
abbrev pub goes : ℕ → Place
goes at = record { at = at; refusal = 0 }

-- opening at a number, from place `at`: on nothing refused by 1; where there is no such record by 12. Any bytes have an answer. The
-- length and the last block's count say how many records there are, and on an archive that is right
unfoldable pub open_at : List ℕ → ℕ → ℕ → Place
open_at a number at = cond (eqb (length a) 0) (stays at no_archive) (cond (ltb number (records a)) (goes number) (stays at no_such_record))

-- moving on by one: opening at the next number
abbrev pub next_at : List ℕ → ℕ → Place
next_at a at = open_at a (at + 1) at

-- the records met from place `at` on, moving on until that is refused; at most n of them
unfoldable pub reading : ℕ → List ℕ → ℕ → List (List ℕ)
reading zero a at = []
reading (suc n) a at = record_at a at ∷ cond (eqb (next_at a at).refusal 0) (reading n a (next_at a at).at) []

-- ---- of a reader
-- the bytes of the archive that it holds; none where it holds no archive
abbrev pub bytes_of : Option Archive → List ℕ
bytes_of None = []
bytes_of (Some a) = a.bytes.now

abbrev pub held : Reader → List ℕ
held r = bytes_of r.archive

-- the same archive at another place
abbrev pub standing : Reader → Place → Reader
standing r p = record { archive = r.archive; at = p.at }

abbrev pub opened : Reader → ℕ → Place
opened r number = open_at (held r) number r.at

abbrev pub advanced : Reader → Place
advanced r = next_at (held r) r.at
