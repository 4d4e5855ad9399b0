-- A whole archive (document 01, "Archive blocks"): a header and then entries blocks, perhaps none. Assumes nothing.
use Rattle.std.specs.Prelude.{ℕ, ◌+◌, ◌*◌, ◌-◌, ◌/◌, ◌%◌, List, [], Bool, ◌&&◌, cond, eqb, ltb, length, take, drop, Result, Ok, Err}
use Rattle.codec.specs.Every.{every}
use Rattle.checksum.specs.Check.{block_size}
use Rattle.header.specs.Header.{parse_header, table_at, well_made_header}
use Rattle.header.specs.declared.Header.{Header}
use Rattle.entries.specs.Starts.{record_start}
use Rattle.entries.specs.Entries.{count_of}
use Rattle.block_test.specs.BlockTest.{block_fits}
use Rattle.refusals.specs.declared.Refusal.{Refusal}
use Rattle.refusals.specs.declared.Refusal.TheVariants.{Malformed}

-- ---- the blocks
-- entries block b of an archive, from 0: it bears number b + 1
unfoldable pub block_of : List ℕ → ℕ → List ℕ
block_of a b = take block_size (drop ((b + 1) * block_size) a)

-- how many there are
unfoldable pub blocks : List ℕ → ℕ
blocks a = length a / block_size - 1

-- n entries blocks behind the header, numbered 1, 2, 3 ..; only the last may have under 15 records
unfoldable pub blocks_fit : Header → List (List ℕ) → List ℕ → ℕ → Bool
blocks_fit h m a n = every n (λ (b : ℕ). block_fits h m (b + 1) (eqb (b + 1) n) (block_of a b))

-- the archive test: whole blocks, a header, and entries blocks
unfoldable pub archive_test : List ℕ → Bool
archive_test a =
    eqb (length a % block_size) 0
    && (well_made_header (take block_size a) && blocks_fit (parse_header (take block_size a)) (table_at 8 (take block_size a) 32) a (blocks a))

-- ---- the records, numbered from 0
unfoldable pub records : List ℕ → ℕ
records a = cond (eqb (blocks a) 0) 0 ((blocks a - 1) * 15 + count_of (block_of a (blocks a - 1)))

-- the 32 bytes of record k, where the archive has its block; else none
unfoldable pub record_at : List ℕ → ℕ → List ℕ
record_at a k = cond (ltb (k / 15 + 1) (length a / block_size)) (take 32 (drop ((k / 15 + 1) * block_size + record_start (k % 15)) a)) []

-- ---- the calls
-- how many records, or refused for bytes that are no archive
unfoldable pub count_records : List ℕ → Result ℕ Refusal
count_records a = cond (archive_test a) (Ok (records a)) (Err Malformed)

-- 0 where there is a record k, 12 where there is none, 1 for bytes that are no archive
unfoldable pub find_record : List ℕ → ℕ → ℕ
find_record a k = cond (archive_test a) (cond (ltb k (records a)) 0 12) 1

-- the record's bytes where it is found, else none
unfoldable pub found_record : List ℕ → ℕ → List ℕ
found_record a k = cond (eqb (find_record a k) 0) (record_at a k) []
