-- The records of a tested archive. Assumes nothing.
use Prim.Native.Nat.{ℕ, ◌+◌, ◌*◌, ◌-◌, ◌/◌, ◌%◌, min, ◌≤◌, ◌<◌}
use mathlib.Core.Path.{◌≡◌, refl, sym}
use mathlib.Core.Logic.{◌≢◌}
use mathlib.Core.List.{List}
use mathlib.Core.Bool.{Bool, true, false, ◌||◌, cond}
use native.Mathlib.Omega.{arith}
use lib.Dec.{eqb}
use lib.ListN.{length}
use borrow.Author.Tests.{eqb-true, eqb-false, ne_eqb, lt-ltb}
use Rattle.codec.specs.Every.{every}
use Rattle.codec.proofs.EveryLaws.{both, every_at}
use Rattle.codec.proofs.SpliceLaws.{part_part}
use Rattle.record.specs.Record.{well_made_record}
use Rattle.record.proofs.Laws as record-laws
use Rattle.entries.specs.Starts.{record_start}
use Rattle.entries.specs.Entries.{count_of, record_of, body_fits}
use Rattle.entries.proofs.Laws.{well_made_parts, well_made-count}
use Rattle.archive.specs.Archive.{block_of, blocks, archive_test, records, record_at}
use Rattle.archive.proofs.Laws.{test-blocks, block_parts}

module _ (a : List ℕ) (tested : archive_test a ≡ true) where
  -- the number of records, by the last block
  last_block : (k : ℕ) → k < records a → (1 ≤ blocks a) × (k < (blocks a - 1) * 15 + count_of (block_of a (blocks a - 1)))
  unfolding records
  last_block k h = go (eqb (blocks a) 0) refl h
    where
      go : (t : Bool) → eqb (blocks a) 0 ≡ t → k < cond t 0 ((blocks a - 1) * 15 + count_of (block_of a (blocks a - 1)))
          → (1 ≤ blocks a) × (k < (blocks a - 1) * 15 + count_of (block_of a (blocks a - 1)))
      go true e l = absurd (omega arith)
      go false e l = (let n : blocks a ≡ 0 → ⊥ = eqb-false _ _ e in omega arith, l)

  -- a block that is not the last has fifteen records
  pub full : (b : ℕ) → b < blocks a → (b + 1 ≡ blocks a → ⊥) → count_of (block_of a b) ≡ 15
  full b l n = eqb-true _ _ (go (eqb (b + 1) (blocks a)) refl (block_parts a tested b l).2)
    where
      go : (t : Bool) → eqb (b + 1) (blocks a) ≡ t → (t || eqb (count_of (block_of a b)) 15) ≡ true → eqb (count_of (block_of a b)) 15 ≡ true
      go true e h = absurd (n (eqb-true _ _ e))
      go false e h = h

  -- no block has more than fifteen
  pub records-most : records a ≤ blocks a * 15
  unfolding records
  records-most = go (eqb (blocks a) 0) refl
    where
      go : (t : Bool) → eqb (blocks a) 0 ≡ t → cond t 0 ((blocks a - 1) * 15 + count_of (block_of a (blocks a - 1))) ≤ blocks a * 15
      go true e = omega arith
      go false e =
          let n : blocks a ≡ 0 → ⊥ = eqb-false _ _ e in
          let p : 1 ≤ blocks a = omega arith in
          omega (arith, (well_made-count (block_of a (blocks a - 1)) (block_parts a tested (blocks a - 1) (omega arith)).0).1)

  -- the numbers of the records of a block
  pub block-numbers : (b : ℕ) → b < blocks a → (b * 15 ≤ records a) × (b * 15 + count_of (block_of a b) ≡ min ((b + 1) * 15) (records a)) × (count_of (block_of a b) ≤ 15)
  unfolding records
  block-numbers b l = go (eqb (b + 1) (blocks a)) refl
    where
      last : blocks a ≢ 0
      last e = omega arith

      go : (t : Bool) → eqb (b + 1) (blocks a) ≡ t → (b * 15 ≤ records a) × (b * 15 + count_of (block_of a b) ≡ min ((b + 1) * 15) (records a)) × (count_of (block_of a b) ≤ 15)
      go true e =
          let f : b ≡ blocks a - 1 = omega (arith, eqb-true (b + 1) (blocks a) e) in
          let w = well_made-count (block_of a (blocks a - 1)) (block_parts a tested (blocks a - 1) (omega arith)).0 in
          rw (ne_eqb (blocks a) 0 last, f) (omega arith, omega arith, w.1)
      go false e =
          let n : b + 1 ≡ blocks a → ⊥ = eqb-false _ _ e in
          let f = full b l n in
          rw (ne_eqb (blocks a) 0 last) (omega arith, omega arith, omega arith)

  module _ (k : ℕ) (below : k < records a) where
    in_blocks : k / 15 < blocks a
    in_blocks =
        let l = last_block k below in
        let p : 1 ≤ blocks a = l.0 in
        let w = well_made-count (block_of a (blocks a - 1)) (block_parts a tested (blocks a - 1) (omega arith)).0 in
        omega arith

    in_count : k % 15 < count_of (block_of a (k / 15))
    in_count = go (eqb (k / 15 + 1) (blocks a)) refl
      where
        go : (t : Bool) → eqb (k / 15 + 1) (blocks a) ≡ t → k % 15 < count_of (block_of a (k / 15))
        go true e =
            let f : k / 15 ≡ blocks a - 1 = omega (arith, eqb-true (k / 15 + 1) (blocks a) e) in
            rw f (omega (arith, (last_block k below).1))
        go false e = omega (arith, full (k / 15) in_blocks (eqb-false (k / 15 + 1) (blocks a) e))

    -- record k stands in block k / 15, at place k % 15
    pub record_place : record_at a k ≡ record_of (block_of a (k / 15)) (k % 15)
    unfolding record_at record_of block_of
    record_place =
        let t : k / 15 + 1 < length a / 512 = omega (arith, test-blocks a tested, in_blocks) in
        rw (lt-ltb _ _ t) (sym (part_part a 32 (record_start (k % 15)) 512 ((k / 15 + 1) * 512) (omega arith)))

    pub record_well_made : well_made_record (record_at a k) ≡ true
    unfolding body_fits
    record_well_made =
        let b = block_of a (k / 15) in
        let w = (well_made_parts b (block_parts a tested (k / 15) in_blocks).0).2 in
        rw record_place (every_at (count_of b) (λ (j : ℕ). well_made_record (record_of b j)) (k % 15) (both (every (count_of b) (λ (j : ℕ). well_made_record (record_of b j))) _ w).0 in_count)

    pub record_length_lem : length (record_at a k) ≡ 32
    record_length_lem = (record-laws.well_made_parts (record_at a k) record_well_made).0
