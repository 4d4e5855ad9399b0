-- The entries block (document 01, "Archive blocks"): 512 bytes with one to fifteen records. Assumes nothing.
use Rattle.std.specs.Prelude.{ℕ, ◌*◌, ◌-◌, ◌/◌, ◌%◌, List, [], ◌∷◌, ◌++◌, Bool, ◌&&◌, ◌||◌, cond, eqb, leb, ltb, length, get_or, take, drop, Result, Ok, Err}
use Rattle.codec.specs.Num.{bytes_of, num_at}
use Rattle.codec.specs.Splice.{splice}
use Rattle.codec.specs.Every.{every, all_zero, blank}
use Rattle.checksum.specs.Check.{block_size, sealed, seal_of}
use Rattle.codec.specs.Written.{Written, refused, wrote}
use Rattle.record.specs.Record.{well_made_record}
use Rattle.entries.specs.Starts.{record_start}
use Rattle.entries.specs.declared.EntriesRead.{EntriesRead}
use Rattle.refusals.specs.declared.Refusal.{Refusal}
use Rattle.refusals.specs.declared.Refusal.TheVariants.{Malformed}

-- ---- the block
abbrev pub count_of : List ℕ → ℕ
count_of l = get_or l 1 0

abbrev pub stored_number : List ℕ → ℕ
stored_number l = num_at 4 l 4

-- the 32 bytes of record k
unfoldable pub record_of : List ℕ → ℕ → List ℕ
record_of l k = take 32 (drop (record_start k) l)

-- kind 2, one to fifteen records, a block number from 1, and the unnamed bytes before the records
abbrev pub fields_fit : List ℕ → Bool
fields_fit l =
    eqb (get_or l 0 0) 2 && (leb 1 (count_of l) && (leb (count_of l) 15
    && (eqb (num_at 2 l 2) 0 && (leb 1 (stored_number l) && all_zero (take 8 (drop 8 l))))))

-- the check and the fields
unfoldable pub front_fits : List ℕ → Bool
front_fits l = sealed l && fields_fit l

-- the places past the last record are zero up to the check
abbrev pub tail_fits : List ℕ → ℕ → Bool
tail_fits l count = all_zero (take (510 - record_start count) (drop (record_start count) l))

-- every record is well made, and the places past the last one are zero up to the check
unfoldable pub body_fits : List ℕ → ℕ → Bool
body_fits l count = every count (λ (k : ℕ). well_made_record (record_of l k)) && tail_fits l count

-- bytes that are an entries block
unfoldable pub well_made_entries : List ℕ → Bool
well_made_entries l = eqb (length l) block_size && (front_fits l && body_fits l (count_of l))

-- the block of a number and its records' bytes: kind 2, the count, the number at 4, the records from 16, zeros, the check
unfoldable pub entries_body : ℕ → List ℕ → List ℕ
entries_body number rs = (2 ∷ length rs / 32 ∷ 0 ∷ 0 ∷ []) ++ bytes_of 4 number ++ blank 8 ++ rs ++ blank (494 - length rs)

unfoldable pub image_entries : ℕ → List ℕ → List ℕ
image_entries number rs = seal_of (entries_body number rs)

-- ---- the calls
-- the records' bytes, 32 each
unfoldable pub records_fit : List ℕ → ℕ → Bool
records_fit rs count = every count (λ (k : ℕ). well_made_record (take 32 (drop (k * 32) rs)))

-- what can be written: a block number from 1, and whole records that are well made
unfoldable pub entries_fit : ℕ → List ℕ → Bool
entries_fit number rs = leb 1 number && (eqb (length rs % 32) 0 && records_fit rs (length rs / 32))

-- none or over fifteen records are 12, what does not fit is 1, a buffer of under 512 bytes 11
unfoldable pub write_entries : ℕ → List ℕ → List ℕ → Written
write_entries number rs d =
    cond (eqb (length rs) 0 || ltb 480 (length rs))
    (refused 12 d)
    (cond (entries_fit number rs)
    (cond (ltb (length d) block_size) (refused 11 d) (wrote (splice d 0 (image_entries number rs))))
    (refused 1 d))

unfoldable pub read_entries : List ℕ → Result EntriesRead Refusal
read_entries l = cond (well_made_entries l) (Ok (record { number = stored_number l; count = count_of l })) (Err Malformed)

-- no entries block is 1, no such record 12, a buffer of under 32 bytes 11
unfoldable pub read_record : List ℕ → ℕ → List ℕ → Written
read_record l k d =
    cond (well_made_entries l)
    (cond (ltb k (count_of l)) (cond (ltb (length d) 32) (refused 11 d) (wrote (splice d 0 (record_of l k)))) (refused 12 d))
    (refused 1 d)
