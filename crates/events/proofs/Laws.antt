-- The records of a block among those of the archive. Assumes nothing.
use Prim.Native.Nat.{ℕ, ◌+◌, ◌*◌, ◌-◌, ◌/◌, ◌%◌, ◌≤◌, ◌<◌}
use mathlib.Core.Path.{◌≡◌, sym, ap}
use mathlib.Core.List.{List, []}
use mathlib.Core.Bool.{Bool, true, false, cond}
use native.Mathlib.Omega.{arith}
use lib.Dec.{leb, ltb}
use lib.ListN.{length, get_or, take, drop, length-take, length-drop}
use borrow.Author.Tests.{leb-true, ltb-true, lt-ltb}
use Rattle.codec.specs.Num.{AreBytes}
use Rattle.codec.proofs.EveryLaws.{both}
use Rattle.codec.proofs.Fronts.{bytes_take, bytes_drop}
use Rattle.codec.proofs.NumLaws.{nums_get}
use Rattle.codec.proofs.Has.{num_below}
use Rattle.record.specs.Record.{parse_record, peer_fits, record_fits}
use Rattle.record.proofs.Laws as record-laws
use Rattle.entries.specs.Starts.{record_start}
use Rattle.entries.specs.Entries.{count_of, record_of}
use Rattle.archive.specs.Archive.{block_of, blocks, archive_test, records, record_at}
use Rattle.archive.proofs.Laws.{test-blocks}
use Rattle.archive.proofs.Tested.{block-numbers, record_place, record_well_made, records-most}
use Rattle.events.specs.Events.{event_at, station_at, own_at}

-- the part of an archive that is lent for a block
pub block_part : (a : List ℕ) (b : ℕ) → take ((b + 1) * 512 + 512 - (b + 1) * 512) (drop ((b + 1) * 512) a) ≡ block_of a b
unfolding block_of
block_part a b = let e : (b + 1) * 512 + 512 - (b + 1) * 512 ≡ 512 = omega arith in rw e

pub block-length : (a : List ℕ) (b : ℕ) → b < blocks a → length (block_of a b) ≡ 512
unfolding block_of blocks
block-length a b h = simp (length-take, length-drop) (omega arith)

module _ (a : List ℕ) (tested : archive_test a ≡ true) where
  pub station-small : (k : ℕ) → k < records a → station_at a k < 8
  unfolding station_at event_at record_fits
  station-small k l = ltb-true (station_at a k) 8 (both (ltb (station_at a k) 8) _ (record-laws.well_made_parts (record_at a k) (record_well_made a tested k l)).3).0

  -- phases are at most the last one, and own counts at least 1
  pub phase-small : (k : ℕ) → k < records a → (event_at a k).phase ≤ 999999
  unfolding event_at record_fits
  phase-small k l =
      let r = parse_record (record_at a k) in
      let f = (record-laws.well_made_parts (record_at a k) (record_well_made a tested k l)).3 in
      leb-true r.phase 999999 (both (leb r.phase 999999) _ (both (peer_fits r.kind r.station r.peer) _ (both (ltb r.station 8) _ f).1).1).0

  pub own_some : (k : ℕ) → k < records a → 1 ≤ own_at a k
  unfolding own_at station_at event_at record_fits
  own_some k l =
      let r = parse_record (record_at a k) in
      let f = (record-laws.well_made_parts (record_at a k) (record_well_made a tested k l)).3 in
      leb-true 1 (get_or r.counts r.station 0) (both (leb r.phase 999999) _ (both (peer_fits r.kind r.station r.peer) _ (both (ltb r.station 8) _ f).1).1).1

  -- an own count has two bytes
  module _ (bytes : AreBytes a) where
    record_bytes_lem : (k : ℕ) → AreBytes (record_at a k)
    unfolding record_at
    record_bytes_lem k = go (ltb (k / 15 + 1) (length a / 512))
      where
        at : ℕ
        at = (k / 15 + 1) * 512 + record_start (k % 15)

        go : (t : Bool) → AreBytes (cond t (take 32 (drop at a)) [])
        go true = bytes_take 32 (drop at a) (bytes_drop at a bytes)
        go false = λ i. omega arith

    pub own-small : (k : ℕ) → k < records a → own_at a k < 65536
    unfolding own_at event_at
    own-small k l = rw (nums_get 2 8 (record_at a k) 16 (station_at a k) (station-small k l)) (num_below 2 (record_at a k) _ (record_bytes_lem k))

  module _ (b : ℕ) (known : b < blocks a) where
    -- how many records a block has
    pub block-most : count_of (block_of a b) ≤ 15
    block-most = (block-numbers a tested b known).2

    -- record k of block b is record b * 15 + k of the archive
    pub block-below : (k : ℕ) → k < count_of (block_of a b) → b * 15 + k < records a
    block-below k l = omega (arith, (block-numbers a tested b known).1)

    pub block-event : (k : ℕ) → k < count_of (block_of a b) → parse_record (record_of (block_of a b) k) ≡ event_at a (b * 15 + k)
    unfolding event_at
    block-event k l =
        let n = block-numbers a tested b known in
        let i : (b * 15 + k) / 15 ≡ b = omega (arith, n.2) in
        let j : (b * 15 + k) % 15 ≡ k = omega (arith, n.2) in
        ap parse_record (sym (rw (i, j) at (record_place a tested (b * 15 + k) (block-below k l))))

    -- and behind its last there is none up to the next block
    pub block_end : (k : ℕ) → b * 15 + count_of (block_of a b) ≤ k → k < b * 15 + 15 → records a ≤ k
    block_end k l m = omega (arith, (block-numbers a tested b known).1)

-- record 15 b + k stands in the archive's bytes at place k of block b
module _ (a : List ℕ) (tested : archive_test a ≡ true) (n b k : ℕ) (stands : n ≡ b * 15 + k) (low : k < 15) (below : n < records a) where
  pub place_long : (b + 1) * 512 + 512 ≤ length a
  place_long = omega (arith, test-blocks a tested, records-most a tested)

  pub place_part : (o : ℕ) → o ≡ record_start k → take ((b + 1) * 512 + o + 32 - ((b + 1) * 512 + o)) (drop ((b + 1) * 512 + o) a) ≡ record_at a n
  unfolding record_at
  place_part o e =
      let i : n / 15 ≡ b = omega arith in
      let j : n % 15 ≡ k = omega arith in
      let f : (b + 1) * 512 + o + 32 - ((b + 1) * 512 + o) ≡ 32 = omega arith in
      let g : b + 1 < length a / 512 = omega (arith, place_long) in
      rw (i, j, f, lt-ltb _ _ g, ← e)
