-- The test of a station's 47 bytes. Assumes nothing.
use Rattle.std.specs.Prelude.{ℕ, List, Bool, cond, ◌&&◌, eqb, leb, get_or}
use Rattle.codec.specs.Every.{every}
use Rattle.reset.specs.Config.{Config}
use Rattle.reset.specs.WellFormed.{station_fits}
use Rattle.station.specs.Image.{byte_at, parse_station}

-- ---- the tests of a record's bytes, by a row of limits from o on in a header block
-- a number of messages sent within the limit
abbrev pub sent_within_at : List ℕ → ℕ → List ℕ → ℕ → Bool
sent_within_at head o l j = leb (byte_at l 16 j) (byte_at head o j)

-- marks of each kind that are 0 or 1, and 0 where the limit is
abbrev pub mark_bound : ℕ → ℕ
mark_bound limit = cond (eqb limit 0) 0 1

abbrev pub marks_within_at : List ℕ → ℕ → List ℕ → ℕ → Bool
marks_within_at head o l j = leb (byte_at l 24 j) (mark_bound (byte_at head o j)) && leb (byte_at l 32 j) (mark_bound (byte_at head o j))

-- ---- the test of the bytes
-- mark bytes are at most 1, and the mode byte is at most 2
abbrev pub mark_fits : List ℕ → ℕ → Bool
mark_fits l j = leb (byte_at l 24 j) 1

unfoldable pub station_bytes_fit : List ℕ → Bool
station_bytes_fit l = leb (get_or l 46 0) 2 && every 16 (mark_fits l)

-- the bytes are those of a record of station i with every field in its range
unfoldable pub station_test : Config → ℕ → List ℕ → Bool
station_test c i l = station_bytes_fit l && station_fits c i (parse_station l)
