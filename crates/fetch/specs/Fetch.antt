-- The records that a list of numbers names, copied out of the blocks that hold them (document 02, CR 6). Assumes nothing.
use Rattle.std.specs.Prelude.{ℕ, zero, suc, ◌+◌, ◌*◌, ◌/◌, ◌%◌, ◌≤◌, ◌<◌, ◌≡◌, List, Bool, true, false, ◌&&◌, cond, eqb, ltb, length, get_or, take, drop}
use Rattle.codec.specs.Splice.{splice}
use Rattle.codec.specs.Every.{some, count_below}
use Rattle.entries.specs.Entries.{count_of, stored_number, record_of}
use Rattle.archive.specs.Archive.{block_of, blocks, archive_test, records, record_at}

-- ---- the collecting step
-- a block holds record k of its archive: told by the number that it bears and its count of records
unfoldable pub holds : List ℕ → ℕ → Bool
holds block k = eqb (stored_number block) (k / 15 + 1) && ltb (k % 15) (count_of block)

-- the copies are 32 bytes for each number; the one of number i
unfoldable pub copy_at : List ℕ → ℕ → List ℕ
copy_at d i = take 32 (drop (i * 32) d)

-- copies d after one block, by the first n numbers of l: each wanted record that the block holds is copied, all else is left
unfoldable pub copied : List ℕ → List ℕ → List ℕ → ℕ → List ℕ
copied block l d zero = d
copied block l d (suc n) =
    cond (holds block (get_or l n 0)) (splice (copied block l d n) (n * 32) (record_of block (get_or l n 0 % 15))) (copied block l d n)

-- how many blocks were fetched, and the copies
pub record Collected : Type 0 where
  pub count : ℕ
  pub copies : List ℕ

-- the step: of a block and the count so far
abbrev pub collected : List ℕ → List ℕ → Collected → Collected
collected block l c = record { count = c.count + 1; copies = copied block l c.copies (length l) }

-- ---- all steps
-- some number is of a record of block b
unfoldable pub wanted : List ℕ → ℕ → Bool
wanted l b = some (length l) (λ (i : ℕ). eqb (get_or l i 0 / 15) b)

-- the blocks below b that are wanted, rising, one step each, on copies d
unfoldable pub fetched_below : List ℕ → List ℕ → List ℕ → ℕ → Collected
fetched_below a l d zero = record { count = 0; copies = d }
fetched_below a l d (suc b) = cond (wanted l b) (collected (block_of a b) l (fetched_below a l d b)) (fetched_below a l d b)

-- of the whole archive: the last count, and the copies
abbrev pub fetched : List ℕ → List ℕ → List ℕ → Collected
fetched a l d = fetched_below a l d (blocks a)

-- ---- what is claimed
-- of one step, place by place
pub record Collects (block l before after : List ℕ) : Type 0 where
  pub long : length after ≡ length before
  pub copies : (i : ℕ) → i < length l → holds block (get_or l i 0) ≡ true → copy_at after i ≡ record_of block (get_or l i 0 % 15)
  pub leaves : (i : ℕ) → i < length l → holds block (get_or l i 0) ≡ false → copy_at after i ≡ copy_at before i
  pub behind : drop (length l * 32) after ≡ drop (length l * 32) before

abbrev pub EveryStep : Type 0
EveryStep = (block l d : List ℕ) → length block ≡ 512 → length l * 32 ≤ length d → Collects block l d (copied block l d (length l))

-- block b holds a named record
unfoldable pub holds_named : List ℕ → List ℕ → ℕ → Bool
holds_named a l b = some (length l) (λ (i : ℕ). holds (block_of a b) (get_or l i 0))

-- of all steps: as many as there are blocks that hold a named record, whatever the numbers repeat; every number has the copy of its record
pub record Fetches (a l d : List ℕ) : Type 0 where
  pub distinct : (fetched a l d).count ≡ count_below (blocks a) (holds_named a l)
  pub copies : (i : ℕ) → i < length l → copy_at (fetched a l d).copies i ≡ record_at a (get_or l i 0)

abbrev pub EveryFetch : Type 0
EveryFetch = (a l d : List ℕ) → archive_test a ≡ true → ((i : ℕ) → i < length l → get_or l i 0 < records a) → length l * 32 ≤ length d → Fetches a l d
