-- The record of an event (document 01, "Archive blocks"): 32 bytes. Assumes nothing.
use Rattle.std.specs.Prelude.{ℕ, List, [], ◌∷◌, ◌++◌, Bool, not, ◌&&◌, ◌||◌, eqb, leb, ltb, length, get_or}
use Rattle.codec.specs.Num.{bytes_of, num_at, nums_of, nums_at}
use Rattle.clock.specs.Range.{last_phase}
use Rattle.record.specs.declared.Record.{Record}
use Rattle.record.specs.declared.Kind.{Kind}
use Rattle.record.specs.declared.Kind.TheVariants.{Own, Sent, Received}

-- 1 own, 2 sent, 3 received
abbrev pub kind_byte : Kind → ℕ
kind_byte Own = 1
kind_byte Sent = 2
kind_byte Received = 3

-- the peer of an own event is 255, that of a sent or received one another station below 8
unfoldable pub peer_fits : ℕ → ℕ → ℕ → Bool
peer_fits kind station peer = (eqb kind 1 && eqb peer 255) || ((eqb kind 2 || eqb kind 3) && (ltb peer 8 && not (eqb peer station)))

-- station, kind, peer and phase are in range, and the station's own count is at least 1
unfoldable pub record_fits : Record → Bool
record_fits r =
    ltb r.station 8 && (peer_fits r.kind r.station r.peer && (leb r.phase last_phase && leb 1 (get_or r.counts r.station 0)))

-- the 32 bytes of a record; byte 3 and bytes 12 to 15 are spare
unfoldable pub image_record : Record → List ℕ
image_record r =
    (r.kind ∷ r.station ∷ r.peer ∷ 0 ∷ []) ++ bytes_of 4 r.phase ++ bytes_of 4 r.register ++ bytes_of 4 0 ++ nums_of 2 8 r.counts

-- the record that the first 32 bytes stand for
abbrev pub parse_record : List ℕ → Record
parse_record l =
    record {
      kind = get_or l 0 0;
      station = get_or l 1 0;
      peer = get_or l 2 0;
      phase = num_at 4 l 4;
      register = num_at 4 l 8;
      counts = nums_at 2 8 l 16;
    }

-- bytes that are a record: 32 of them, the spare ones zero, every field in range
unfoldable pub well_made_record : List ℕ → Bool
well_made_record l = eqb (length l) 32 && (eqb (get_or l 3 0) 0 && (eqb (num_at 4 l 12) 0 && record_fits (parse_record l)))
