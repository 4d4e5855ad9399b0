-- A header block for a host: its fields as numbers and bytes. Assumes nothing.
use Rattle.std.specs.Prelude.{ℕ, List, [], ◌∷◌, ◌++◌, Bool, ◌&&◌, cond, eqb, leb, ltb, length}
use Rattle.codec.specs.Num.{bytes_of, nums_of, nums_at}
use Rattle.codec.specs.Splice.{splice}
use Rattle.codec.specs.Written.{Written, refused, wrote}
use Rattle.header.specs.Header.{table_at, table_of, parse_header, well_made_header, write_header}
use Rattle.header.specs.declared.Header.{Header}
use Rattle.host_numbers.specs.Numbers.{fields_length, malformed, area_length}

-- ---- writing
-- 16 bytes of allowances, 64 of limits, n of one byte and t of two
unfoldable pub fields_fit : ℕ → ℕ → List ℕ → List ℕ → Bool
fields_fit n t x m = eqb (length x) 16 && (eqb (length m) 64 && (leb n 255 && leb t 65535))

-- the allowances are two bytes each, little-endian
abbrev pub header_given : ℕ → ℕ → List ℕ → Header
header_given n t x = record { n = n; t = t; allowances = nums_at 2 8 x 0 }

-- fields that do not fit are 1; else as the header's writer, with the limits row by row
unfoldable pub header_written : ℕ → ℕ → List ℕ → List ℕ → List ℕ → Written
header_written n t x m d = cond (fields_fit n t x m) (write_header (header_given n t x) (table_at 8 m 0) d) (refused malformed d)

-- ---- reading
-- the 83 bytes of a header's fields: n, t, the allowances, the limits row by row
unfoldable pub field_bytes : Header → List (List ℕ) → List ℕ
field_bytes h m = (h.n ∷ []) ++ bytes_of 2 h.t ++ nums_of 2 8 h.allowances ++ table_of m

-- bytes that are no header block are 1, an area of under 83 bytes 11; the rest of an area is left
unfoldable pub header_fields : List ℕ → List ℕ → Written
header_fields l d =
    cond (well_made_header l)
    (cond (ltb (length d) fields_length) (refused area_length d) (wrote (splice d 0 (field_bytes (parse_header l) (table_at 8 l 32)))))
    (refused malformed d)
