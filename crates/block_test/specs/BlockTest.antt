-- An entries block in its place in an archive (document 01, "Archive blocks"). Assumes nothing.
use Rattle.std.specs.Prelude.{ℕ, List, [], Bool, ◌&&◌, ◌||◌, eqb, ltb, get_or}
use Rattle.codec.specs.Every.{every}
use Rattle.clock.specs.Range.{counts_fit}
use Rattle.record.specs.Record.{parse_record}
use Rattle.record.specs.declared.Record.{Record}
use Rattle.header.specs.declared.Header.{Header}
use Rattle.entries.specs.Entries.{count_of, stored_number, record_of, well_made_entries}

-- ---- what a record may name
-- there is a link from i to j
unfoldable pub has_link : List (List ℕ) → ℕ → ℕ → Bool
has_link m i j = ltb 0 (get_or (get_or m i []) j 0)

-- the peer is a station, and the record's link is there: sent, from station to peer; received, from peer to station
unfoldable pub peer_known : ℕ → List (List ℕ) → Record → Bool
peer_known n m r =
    eqb r.kind 1
    || (ltb r.peer n && ((eqb r.kind 2 && has_link m r.station r.peer) || (eqb r.kind 3 && has_link m r.peer r.station)))

-- no station or link that the header lacks, no count above t, none above 0 for a station n or above
unfoldable pub record_known : Header → List (List ℕ) → Record → Bool
record_known h m r = ltb r.station h.n && (peer_known h.n m r && counts_fit h.n h.t r.counts)

-- ---- a block
-- the records of a block, as the header of the archive allows
unfoldable pub all_known : Header → List (List ℕ) → List ℕ → Bool
all_known h m l = every (count_of l) (λ (k : ℕ). record_known h m (parse_record (record_of l k)))

-- a well-made block with the right number, full where it is not the last, whose records name what the header has
unfoldable pub block_fits : Header → List (List ℕ) → ℕ → Bool → List ℕ → Bool
block_fits h m number last l =
    well_made_entries l && (eqb (stored_number l) number && ((last || eqb (count_of l) 15) && all_known h m l))
