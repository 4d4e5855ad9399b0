-- The header block (document 01, "Archive blocks"): 512 bytes with the network's fields. Assumes nothing.
use Rattle.std.specs.Prelude.{ℕ, zero, suc, ◌+◌, ◌/◌, ◌%◌, List, [], ◌∷◌, ◌++◌, Bool, ◌&&◌, cond, eqb, leb, ltb, length, get_or, take, drop, replicate, Result, Ok, Err}
use Rattle.codec.specs.Num.{bytes_of, num_at, nums_of, nums_at}
use Rattle.codec.specs.Splice.{splice}
use Rattle.codec.specs.Rows.{upto}
use Rattle.codec.specs.Every.{every, all_zero, blank}
use Rattle.checksum.specs.Check.{block_size, sealed, seal_of}
use Rattle.codec.specs.Written.{Written, refused, wrote}
use Rattle.header.specs.declared.Header.{Header}
use Rattle.refusals.specs.declared.Refusal.{Refusal}
use Rattle.refusals.specs.declared.Refusal.TheVariants.{Malformed}

-- ---- ranges
-- a row of limits, each at most 32
unfoldable pub row_in_range : List ℕ → Bool
row_in_range r = every 8 (λ (j : ℕ). leb (get_or r j 0) 32)

unfoldable pub limits_in_range : List (List ℕ) → Bool
limits_in_range m = every 8 (λ (i : ℕ). row_in_range (get_or m i []))

-- n from 1 to 8, t from 1, every limit at most 32; the types bound t and the allowances by 65,535
unfoldable pub header_fits : Header → List (List ℕ) → Bool
header_fits h m = leb 1 h.n && (leb h.n 8 && (leb 1 h.t && limits_in_range m))

-- ---- the block
-- n bytes from `at` on
abbrev pub bytes_at : ℕ → List ℕ → ℕ → List ℕ
bytes_at n l at = upto n (λ (j : ℕ). get_or l (at + j) 0)

-- n rows of eight bytes from `at` on
unfoldable pub table_at : ℕ → List ℕ → ℕ → List (List ℕ)
table_at zero l at = []
table_at (suc n) l at = bytes_at 8 l at ∷ table_at n l (at + 8)

-- the 64 limits, row by row
unfoldable pub table_of : List (List ℕ) → List ℕ
table_of m = upto 64 (λ (k : ℕ). get_or (get_or m (k / 8) []) (k % 8) 0)

-- the fields of a block but for its limits, which are table_at 8 l 32
abbrev pub parse_header : List ℕ → Header
parse_header l = record { n = get_or l 1 0; t = num_at 2 l 2; allowances = nums_at 2 8 l 16 }

-- the block of a header: kind 1, n, t, the allowances from 16, the limits from 32, zeros elsewhere, the check
unfoldable pub header_body : Header → List (List ℕ) → List ℕ
header_body h m = (1 ∷ h.n ∷ []) ++ bytes_of 2 h.t ++ blank 12 ++ nums_of 2 8 h.allowances ++ table_of m ++ blank 414

unfoldable pub image_header : Header → List (List ℕ) → List ℕ
image_header h m = seal_of (header_body h m)

-- bytes that are a header block: length, check, kind, unnamed bytes and fields
unfoldable pub well_made_header : List ℕ → Bool
well_made_header l =
    eqb (length l) block_size && (sealed l && (eqb (get_or l 0 0) 1
    && (all_zero (take 12 (drop 4 l)) && (all_zero (take 414 (drop 96 l)) && header_fits (parse_header l) (table_at 8 l 32)))))

-- ---- the calls
-- fields out of range are 1, a buffer of under 512 bytes 11; the rest of a buffer is left
unfoldable pub write_header : Header → List (List ℕ) → List ℕ → Written
write_header h m d =
    cond (header_fits h m)
    (cond (ltb (length d) block_size) (refused 11 d) (wrote (splice d 0 (image_header h m))))
    (refused 1 d)

unfoldable pub read_header : List ℕ → Result Header Refusal
read_header l = cond (well_made_header l) (Ok (parse_header l)) (Err Malformed)

unfoldable pub read_limits : List ℕ → List (List ℕ)
read_limits l = cond (well_made_header l) (table_at 8 l 32) (replicate 8 (replicate 8 0))
