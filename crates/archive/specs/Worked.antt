-- Small archives and records worked by the definitions, each answer computed: for each rule of an archive one that keeps it and one that breaks it.
-- Assumes nothing.
use Rattle.std.specs.Prelude.{ℕ, ◌≡◌, refl, List, ◌∷◌, ◌++◌, true, false, set, replicate}
use Rattle.codec.specs.Rows.{rows, upto}
use Rattle.codec.specs.Every.{every, total, blank}
use Rattle.checksum.specs.Check.{weighted, check_of, sealed, seal_of}
use Rattle.clock.specs.Range.{counts_fit}
use Rattle.record.specs.Record.{peer_fits, record_fits, image_record, well_made_record}
use Rattle.record.specs.declared.Record.{Record}
use Rattle.header.specs.Header.{row_in_range, limits_in_range, header_fits, table_at, table_of, header_body, image_header, well_made_header}
use Rattle.header.specs.declared.Header.{Header}
use Rattle.entries.specs.Entries.{record_of, front_fits, body_fits, well_made_entries, entries_body, image_entries}
use Rattle.block_test.specs.BlockTest.{has_link, peer_known, record_known, all_known, block_fits}
use Rattle.archive.specs.Archive.{block_of, blocks, blocks_fit, archive_test}

-- ---- headers
-- n stations and a ceiling of 7
abbrev pub stations : ℕ → Header
stations n = record { n = n; t = 7; allowances = replicate 8 1 }

-- limits from 0 to 1, from 1 to 0, and between 0 and 2
abbrev pub limits : ℕ → ℕ → ℕ → List (List ℕ)
limits x y z = (0 ∷ x ∷ z ∷ replicate 5 0) ∷ (y ∷ replicate 7 0) ∷ (z ∷ replicate 7 0) ∷ replicate 5 (replicate 8 0)

-- both ways, and from 0 to 1 only
abbrev pub both_ways : List (List ℕ)
both_ways = limits 2 2 0

abbrev pub one_way : List (List ℕ)
one_way = limits 2 0 0

-- ---- records: kind, station, peer and the first three counts, then phase
abbrev pub event : ℕ → ℕ → ℕ → ℕ → ℕ → ℕ → Record
event kind station peer x y z = record { kind = kind; station = station; peer = peer; phase = 5; register = 501; counts = x ∷ y ∷ z ∷ replicate 5 0 }

abbrev pub in_phase : ℕ → Record
in_phase p = record { kind = 1; station = 0; peer = 255; phase = p; register = 501; counts = 1 ∷ replicate 7 0 }

-- an own entry of station 0, a send from 0 to 1, its receipt
abbrev pub three : List ℕ
three = image_record (event 1 0 255 1 0 0) ++ image_record (event 2 0 1 2 0 0) ++ image_record (event 3 1 0 2 1 0)

-- a full block of own entries
abbrev pub fifteen : List ℕ
fifteen = rows image_record (replicate 15 (event 1 1 255 0 1 0))

-- ---- archives
-- two stations that are linked both ways
abbrev pub head : List ℕ
head = image_header (stations 2) both_ways

-- a header and one record
abbrev pub holding : Header → List (List ℕ) → Record → List ℕ
holding h m r = image_header h m ++ image_entries 1 (image_record r)

-- ---- the rules of blocks
pub record BlockRules : Type 0 where
  -- an archive may have no entries, and one to fifteen records in its last block
  pub no_entries : archive_test head ≡ true
  pub one_block : archive_test (head ++ image_entries 1 three) ≡ true
  pub two_blocks : archive_test (head ++ image_entries 1 fifteen ++ image_entries 2 three) ≡ true
  -- only the last block may have under 15 records
  pub first_not-full : archive_test (head ++ image_entries 1 three ++ image_entries 2 fifteen) ≡ false
  -- no block bears number 0
  pub zero_no_block : well_made_entries (image_entries 0 three) ≡ false
  pub zero-no_archive : archive_test (head ++ image_entries 0 three) ≡ false
  -- a block with number 2 is one, and no archive has it first
  pub two_a_block : well_made_entries (image_entries 2 three) ≡ true
  pub two_skips : archive_test (head ++ image_entries 2 three) ≡ false
  -- a number repeated, and one left out further on
  pub one_again : archive_test (head ++ image_entries 1 fifteen ++ image_entries 1 three) ≡ false
  pub three-skips : archive_test (head ++ image_entries 1 fifteen ++ image_entries 3 three) ≡ false

-- ---- the rules of a record by itself
pub record RecordRules : Type 0 where
  -- the station's own count is at least 1, whatever the others are
  pub own-count_one : well_made_record (image_record (event 1 1 255 0 1 0)) ≡ true
  pub own-count-zero : well_made_record (image_record (event 1 1 255 3 0 3)) ≡ false
  -- the phase is at most 999,999
  pub last_phase_lem : well_made_record (image_record (in_phase 999999)) ≡ true
  pub phase_too_high : well_made_record (image_record (in_phase 1000000)) ≡ false
  -- byte 3 and bytes 12 to 15 are spare
  pub spare_zero : well_made_entries (image_entries 1 (image_record (in_phase 5))) ≡ true
  pub spare_three : well_made_record (set (image_record (in_phase 5)) 3 1) ≡ false
  pub spare_twelve : well_made_record (set (image_record (in_phase 5)) 12 1) ≡ false
  pub spare_thirteen : well_made_record (set (image_record (in_phase 5)) 13 1) ≡ false
  pub spare_fourteen : well_made_record (set (image_record (in_phase 5)) 14 1) ≡ false
  pub spare_fifteen : well_made_record (set (image_record (in_phase 5)) 15 1) ≡ false
  -- in a block with a right check too
  pub spare_in_block : well_made_entries (image_entries 1 (set (image_record (in_phase 5)) 3 1)) ≡ false

-- ---- what a record may name
pub record NameRules : Type 0 where
  -- with a link from 0 to 1 only: sent from 0 to 1, received at 1 from 0
  pub sent-along : archive_test (holding (stations 2) one_way (event 2 0 1 1 0 0)) ≡ true
  pub received-along : archive_test (holding (stations 2) one_way (event 3 1 0 1 1 0)) ≡ true
  -- and not sent from 1 to 0, nor received at 0 from 1
  pub sent_against : archive_test (holding (stations 2) one_way (event 2 1 0 0 1 0)) ≡ false
  pub received_against : archive_test (holding (stations 2) one_way (event 3 0 1 1 1 0)) ≡ false
  -- a count is at most t, the station's own and another's
  pub counts_at_t : archive_test (holding (stations 2) both_ways (event 1 0 255 7 7 0)) ≡ true
  pub own-above-t : archive_test (holding (stations 2) both_ways (event 1 0 255 8 7 0)) ≡ false
  pub other-above-t : archive_test (holding (stations 2) both_ways (event 1 0 255 7 8 0)) ≡ false
  -- the count of a station n or above is 0
  pub count_of_third : archive_test (holding (stations 3) both_ways (event 1 0 255 1 0 1)) ≡ true
  pub count_of_none : archive_test (holding (stations 2) both_ways (event 1 0 255 1 0 1)) ≡ false
  -- a peer is below n, though its limit be set
  pub sent_to_third : archive_test (holding (stations 3) (limits 2 2 2) (event 2 0 2 1 0 0)) ≡ true
  pub sent_to_none : archive_test (holding (stations 2) (limits 2 2 2) (event 2 0 2 1 0 0)) ≡ false
  pub received_from_third : archive_test (holding (stations 3) (limits 2 2 2) (event 3 0 2 1 0 0)) ≡ true
  pub received_from_none : archive_test (holding (stations 2) (limits 2 2 2) (event 3 0 2 1 0 0)) ≡ false
  -- a station is below n; the own count of one that is not breaks the rule of counts too, so the last case is without it
  pub third_station : archive_test (holding (stations 3) both_ways (event 1 2 255 0 0 1)) ≡ true
  pub no_station : archive_test (holding (stations 2) both_ways (event 1 2 255 0 0 1)) ≡ false
  pub station-alone : record_known (stations 2) both_ways (event 1 2 255 1 0 0) ≡ false

pub worked : BlockRules × RecordRules × NameRules
unfolding every total blank upto weighted check_of sealed seal_of record_fits peer_fits image_record well_made_record row_in_range limits_in_range header_fits table_at table_of header_body image_header well_made_header record_of front_fits body_fits well_made_entries entries_body image_entries counts_fit has_link peer_known record_known block_of blocks all_known block_fits blocks_fit archive_test
worked = (
  record {
    no_entries = refl;
    one_block = refl;
    two_blocks = refl;
    first_not-full = refl;
    zero_no_block = refl;
    zero-no_archive = refl;
    two_a_block = refl;
    two_skips = refl;
    one_again = refl;
    three-skips = refl;
  },
  record {
    own-count_one = refl;
    own-count-zero = refl;
    last_phase_lem = refl;
    phase_too_high = refl;
    spare_zero = refl;
    spare_three = refl;
    spare_twelve = refl;
    spare_thirteen = refl;
    spare_fourteen = refl;
    spare_fifteen = refl;
    spare_in_block = refl;
  },
  record {
    sent-along = refl;
    received-along = refl;
    sent_against = refl;
    received_against = refl;
    counts_at_t = refl;
    own-above-t = refl;
    other-above-t = refl;
    count_of_third = refl;
    count_of_none = refl;
    sent_to_third = refl;
    sent_to_none = refl;
    received_from_third = refl;
    received_from_none = refl;
    third_station = refl;
    no_station = refl;
    station-alone = refl;
  },
)
