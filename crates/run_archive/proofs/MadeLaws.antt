-- The archive made of entries whose records are in range: the test accepts it, and record k is entry k's. Assumes nothing.
use Prim.Native.Nat.{ℕ, ◌+◌, ◌*◌, ◌-◌, ◌/◌, ◌%◌, min, ◌≤◌, ◌<◌}
use mathlib.Core.Path.{◌≡◌, refl, ap, ◌∙◌}
use mathlib.Core.List.{List, [], ◌++◌, append-nil}
use mathlib.Core.Bool.{true, ◌||◌}
use native.Mathlib.Omega.{arith}
use lib.Dec.{eqb, leb}
use lib.ListN.{length, get_or, take, drop, length-append, length-take, length-drop}
use lib.Seq.{take_at}
use borrow.Author.Tests.{eqb-true, eqb-false, eq-eqb, ne_eqb, le-leb, le-ltb}
use Rattle.codec.specs.Rows.{rows, upto}
use Rattle.codec.specs.Splice.{splice}
use Rattle.codec.specs.Written.{wrote}
use Rattle.codec.proofs.EveryLaws.{join, every_of}
use Rattle.codec.proofs.Stride.{rows-length, row_at, upto-length, upto_at}
use Rattle.codec.proofs.SpliceLaws.{part_part}
use Rattle.record.specs.Record.{parse_record, well_made_record}
use Rattle.record.proofs.Laws as record-laws
use Rattle.header.specs.Header.{image_header, parse_header, table_at, well_made_header, write_header}
use Rattle.header.proofs.Laws as header-laws
use Rattle.entries.specs.Entries.{count_of, stored_number, record_of as place_of, records_fit, entries_fit, well_made_entries, write_entries}
use Rattle.entries.proofs.Laws as entries-laws
use Rattle.block_test.specs.BlockTest.{record_known, all_known, block_fits}
use Rattle.archive.specs.Archive.{block_of, blocks, blocks_fit, archive_test, records, record_at}
use Rattle.archive.proofs.Tested.{record_place}
use Rattle.reset.specs.Config.{Config, well_made}
use Rattle.rules.specs.Setup.{header_of}
use Rattle.rules.proofs.Laws.{well_made-typed, well_made-table, well_made_fits, well_made-accepted}
use Rattle.causality.specs.HappenedBefore.{Accepted, no_entry, entry_at}
use Rattle.step_parts.specs.Answers.{event_record}
use Rattle.run_archive.specs.Made.{bytes_of_entry, records_of, block_records, made_block, blocks_for, archive_of}
use Rattle.run_archive.specs.Claims.{InRange, Archived}
use Rattle.reset.proofs.Cases.{by_test}

-- ---- the records' bytes
entry_length : (x : Accepted) → length (bytes_of_entry x) ≡ 32
unfolding bytes_of_entry
entry_length x = record-laws.image-length (event_record x.entry)

records-length : (E : List Accepted) → length (records_of E) ≡ length E * 32
unfolding records_of
records-length E = rows-length bytes_of_entry 32 entry_length E

record_of_lem : (E : List Accepted) (k : ℕ) → k < length E → take 32 (drop (k * 32) (records_of E)) ≡ bytes_of_entry (entry_at E k)
unfolding records_of
record_of_lem E k l =
    let e : 0 + k * 32 ≡ k * 32 = omega arith in
    let r : take 32 (drop (0 + k * 32) (rows bytes_of_entry E ++ [])) ≡ bytes_of_entry (entry_at E k) = row_at bytes_of_entry 32 entry_length [] [] E k no_entry 0 refl l in
    rw (e, append-nil) at r

-- the bytes of a record in range
accepted_bytes : (c : Config) (x : Accepted) → InRange c x.entry → well_made_record (bytes_of_entry x) ≡ true
unfolding bytes_of_entry
accepted_bytes c x r = record-laws.image-accepted (event_record x.entry) r.typed r.fits

pub parsed_bytes : (c : Config) (x : Accepted) → InRange c x.entry → parse_record (bytes_of_entry x) ≡ event_record x.entry
unfolding bytes_of_entry
parsed_bytes c x r = record-laws.parse_image (event_record x.entry) r.typed

-- ---- the records of block b
module _ (E : List Accepted) (b : ℕ) where
  part_length : length (block_records E b) ≡ min 480 (length E * 32 - b * 480)
  unfolding block_records
  part_length = rw (length-take, length-drop, records-length)

  part_count : length (block_records E b) / 32 ≡ min 15 (length E - b * 15)
  part_count = omega (arith, part_length)

  -- record k of block b is entry 15 b + k
  part_record : (k : ℕ) → k < length (block_records E b) / 32 → take 32 (drop (k * 32) (block_records E b)) ≡ bytes_of_entry (entry_at E (b * 15 + k))
  unfolding block_records
  part_record k l =
      let n : k < min 15 (length E - b * 15) = omega (arith, part_count) in
      let e : b * 480 + k * 32 ≡ (b * 15 + k) * 32 = omega arith in
      part_part (records_of E) 32 (k * 32) 480 (b * 480) (omega arith) ∙ ap (λ (x : ℕ). take 32 (drop x (records_of E))) e ∙ record_of_lem E (b * 15 + k) (omega arith)

made-length : (E : List Accepted) (b : ℕ) → length (made_block E b) ≡ 512
unfolding made_block
made-length E b = entries-laws.image-length (b + 1) (block_records E b) (omega (arith, part_length E b))

module _ (c : Config) (E : List Accepted) (w : well_made c ≡ true) (few : length E ≤ 64424509425) (range : (k : ℕ) → k < length E → InRange c (entry_at E k).entry) where
  a : List ℕ
  a = archive_of c E

  -- ---- the blocks
  module _ (b : ℕ) (l : b < blocks_for (length E)) where
    some : 1 ≤ length (block_records E b) / 32
    some = omega (arith, part_count E b)

    in_list : (k : ℕ) → k < length (block_records E b) / 32 → b * 15 + k < length E
    in_list k h = omega (arith, part_count E b)

    part_fits : entries_fit (b + 1) (block_records E b) ≡ true
    unfolding entries_fit records_fit
    part_fits =
        join (leb 1 (b + 1)) _ (le-leb 1 (b + 1) (omega arith))
        (join (eqb (length (block_records E b) % 32) 0) _ (eq-eqb (length (block_records E b) % 32) 0 (omega (arith, part_length E b)))
        (every_of (length (block_records E b) / 32) (λ (k : ℕ). well_made_record (take 32 (drop (k * 32) (block_records E b))))
        (λ (k : ℕ) (h : k < length (block_records E b) / 32). rw (part_record E b k h) (accepted_bytes c (entry_at E (b * 15 + k)) (range (b * 15 + k) (in_list k h))))))

    reads : entries-laws.Reads (b + 1) (block_records E b)
    reads = entries-laws.reads_back (b + 1) (block_records E b) (omega (arith, part_length E b)) some part_fits (omega arith)

    made-count : count_of (made_block E b) ≡ min 15 (length E - b * 15)
    unfolding made_block
    made-count = reads.count_back ∙ part_count E b

    made_record : (k : ℕ) → k < min 15 (length E - b * 15) → place_of (made_block E b) k ≡ bytes_of_entry (entry_at E (b * 15 + k))
    unfolding made_block
    made_record k h = let q : k < length (block_records E b) / 32 = omega (arith, part_count E b) in reads.record_back k q ∙ part_record E b k q

    made_known : all_known (header_of c) c.limits (made_block E b) ≡ true
    unfolding all_known
    made_known =
        every_of (count_of (made_block E b)) (λ (k : ℕ). record_known (header_of c) c.limits (parse_record (place_of (made_block E b) k)))
        (λ (k : ℕ) (h : k < count_of (made_block E b)).
        let q : k < min 15 (length E - b * 15) = omega (arith, made-count) in
        let i : b * 15 + k < length E = omega arith in
        rw (made_record k q, parsed_bytes c (entry_at E (b * 15 + k)) (range (b * 15 + k) i)) (range (b * 15 + k) i).known)

    made_fits : block_fits (header_of c) c.limits (b + 1) (eqb (b + 1) (blocks_for (length E))) (made_block E b) ≡ true
    unfolding block_fits made_block
    made_fits =
        join (well_made_entries (made_block E b)) _ reads.accepted
        (join (eqb (stored_number (made_block E b)) (b + 1)) _ (eq-eqb _ _ reads.number_back)
        (join (eqb (b + 1) (blocks_for (length E)) || eqb (count_of (made_block E b)) 15) _
        (by_test (eqb (b + 1) (blocks_for (length E))) (λ e. rw e)
        (λ e. let n : b + 1 ≡ blocks_for (length E) → ⊥ = eqb-false _ _ e in rw e (eq-eqb (count_of (made_block E b)) 15 (omega (arith, made-count))))) made_known))

  -- ---- where they stand
  header-length : length (image_header (header_of c) c.limits) ≡ 512
  header-length = header-laws.image-length (header_of c) c.limits

  long : length a ≡ 512 + blocks_for (length E) * 512
  unfolding a archive_of
  long = rw (length-append, header-length, rows-length (made_block E) 512 (made-length E), upto-length)

  blocks_is : blocks a ≡ blocks_for (length E)
  unfolding blocks
  blocks_is = omega (arith, long)

  front : take 512 a ≡ image_header (header_of c) c.limits
  unfolding a archive_of
  front = take_at (image_header (header_of c) c.limits) _ 512 header-length

  block_is : (b : ℕ) → b < blocks_for (length E) → block_of a b ≡ made_block E b
  unfolding block_of a archive_of
  block_is b l =
      let bs : List ℕ = upto (blocks_for (length E)) (λ (k : ℕ). k) in
      let e : 512 + b * 512 ≡ (b + 1) * 512 = omega arith in
      let r : take 512 (drop (512 + b * 512) (image_header (header_of c) c.limits ++ (rows (made_block E) bs ++ []))) ≡ made_block E (get_or bs b 0)
      = row_at (made_block E) 512 (made-length E) (image_header (header_of c) c.limits) [] bs b 0 512 header-length (omega (arith, upto-length (blocks_for (length E)) (λ (k : ℕ). k))) in
      let q : get_or bs b 0 ≡ b = upto_at (blocks_for (length E)) (λ (k : ℕ). k) b 0 l in
      (rw (e, append-nil) at r) ∙ ap (made_block E) q

  -- ---- the writers make it
  header_written_lem : (d : List ℕ) → 512 ≤ length d → write_header (header_of c) c.limits d ≡ wrote (splice d 0 (image_header (header_of c) c.limits))
  unfolding write_header
  header_written_lem d l = rw (well_made_fits c w, le-ltb (length d) 512 l)

  block_written : (b : ℕ) → b < blocks_for (length E) → (d : List ℕ) → 512 ≤ length d → write_entries (b + 1) (block_records E b) d ≡ wrote (splice d 0 (made_block E b))
  unfolding write_entries made_block
  block_written b l d g =
      let n : length (block_records E b) ≡ 0 → ⊥ = λ e. omega (arith, some b l) in
      rw (ne_eqb _ 0 n, le-ltb 480 (length (block_records E b)) (omega (arith, part_length E b)), part_fits b l, le-ltb (length d) 512 g)

  -- ---- the archive
  tested : archive_test a ≡ true
  unfolding archive_test blocks_fit
  tested =
      let h : parse_header (image_header (header_of c) c.limits) ≡ header_of c = header-laws.parse_image (header_of c) c.limits (well_made-typed c w) in
      let m : table_at 8 (image_header (header_of c) c.limits) 32 ≡ c.limits = header-laws.table-image (header_of c) c.limits (well_made-table c w) in
      let f : well_made_header (image_header (header_of c) c.limits) ≡ true = well_made-accepted c w in
      let d : length a % 512 ≡ 0 = omega (arith, long) in
      rw (eq-eqb _ 0 d, front, f, h, m, blocks_is)
      (every_of (blocks_for (length E)) (λ (b : ℕ). block_fits (header_of c) c.limits (b + 1) (eqb (b + 1) (blocks_for (length E))) (block_of a b))
      (λ (b : ℕ) (l : b < blocks_for (length E)). rw (block_is b l) (made_fits b l)))

  many : records a ≡ length E
  unfolding records
  many =
      rw blocks_is
      (by_test (eqb (blocks_for (length E)) 0) (λ e. rw e (omega (arith, eqb-true (blocks_for (length E)) 0 e)))
      (λ e. let n : blocks_for (length E) ≡ 0 → ⊥ = eqb-false _ _ e in
      let l : blocks_for (length E) - 1 < blocks_for (length E) = omega arith in
      rw (e, block_is (blocks_for (length E) - 1) l, made-count (blocks_for (length E) - 1) l) (omega arith)))

  found : (k : ℕ) → k < length E → record_at a k ≡ bytes_of_entry (entry_at E k)
  found k l =
      let b : k / 15 < blocks_for (length E) = omega arith in
      let e : k / 15 * 15 + k % 15 ≡ k = omega arith in
      let r : k < records a = omega (arith, many) in
      let q : place_of (made_block E (k / 15)) (k % 15) ≡ bytes_of_entry (entry_at E (k / 15 * 15 + k % 15)) = made_record (k / 15) b (k % 15) (omega arith) in
      record_place a tested k r ∙ ap (λ (x : List ℕ). place_of x (k % 15)) (block_is (k / 15) b) ∙ q ∙ ap (λ (x : ℕ). bytes_of_entry (entry_at E x)) e

  pub archived : Archived c E
  unfolding a
  archived = record { header_written_lem = header_written_lem; block_written = block_written; tested = tested; many = many; found = found }
