-- The calls of an entries block, both ways: what a block holds is written as that block, and what is written is read. Assumes nothing.
use Prim.Native.Nat.{ℕ, ◌+◌, ◌*◌, ◌/◌, ◌%◌, ◌≤◌, ◌<◌}
use mathlib.Core.Path.{◌≡◌, refl, ◌∙◌, ap}
use mathlib.Core.List.{List}
use mathlib.Core.Bool.{Bool, true, false, ◌||◌, cond}
use native.Mathlib.Omega.{arith}
use lib.Dec.{eqb, leb, ltb}
use lib.ListN.{length, take, drop, length-take, length-drop}
use lib.Seq.{take_at}
use borrow.Author.Tests.{eqb-true, eqb-false, ltb-false, le-leb, le-ltb, lt-ltb, eq-eqb, ne_eqb}
use Rattle.codec.specs.Num.{AreBytes}
use Rattle.codec.specs.Splice.{splice}
use Rattle.codec.specs.Every.{every}
use Rattle.codec.specs.Written.{refused, wrote}
use Rattle.codec.proofs.EveryLaws.{both, join}
use Rattle.record.specs.Record.{well_made_record}
use Rattle.entries.specs.Entries.{count_of, stored_number, record_of, body_fits, well_made_entries, image_entries, records_fit, entries_fit, write_entries, read_entries, read_record}
use Rattle.std.proofs.Common.{Result, Ok, Err}
use Rattle.entries.specs.declared.EntriesRead.{EntriesRead}
use Rattle.refusals.specs.declared.Refusal.{Refusal}
use Rattle.refusals.specs.declared.Refusal.TheVariants.{Malformed}
use Rattle.entries.proofs.Laws.{front_parts, well_made_parts, well_made-length, well_made-count, record_bytes, record_part, records_part, image-length, accepted_is_image, reads_back}

-- ---- from the block
-- the records' bytes of a block, 32 for each record that it counts
pub record_bytes-length : (l : List ℕ) → well_made_entries l ≡ true → length (record_bytes l) ≡ count_of l * 32
unfolding record_bytes
record_bytes-length l h =
    let n : length l ≡ 512 = well_made-length l h in
    let c = well_made-count l h in
    simp (length-take, length-drop) (omega arith)

-- record by record
pub record_bytes_at : (l : List ℕ) (k : ℕ) → k < count_of l → take 32 (drop (k * 32) (record_bytes l)) ≡ record_of l k
unfolding record_bytes
record_bytes_at l k h = record_part l k (count_of l * 32) (omega arith)

-- what an accepted block holds is what the writer takes
pub accepted_fits : (l : List ℕ) → well_made_entries l ≡ true → entries_fit (stored_number l) (record_bytes l) ≡ true
unfolding entries_fit record_bytes body_fits
accepted_fits l h =
    let w = well_made_parts l h in
    let m : length (record_bytes l) ≡ count_of l * 32 = record_bytes-length l h in
    let z : length (record_bytes l) % 32 ≡ 0 = omega arith in
    let q : length (record_bytes l) / 32 ≡ count_of l = omega arith in
    let r : records_fit (record_bytes l) (count_of l) ≡ true = records_part l (count_of l) ∙ (both (every (count_of l) (λ (k : ℕ). well_made_record (record_of l k))) _ w.2).0 in
    join _ _ (le-leb 1 (stored_number l) (front_parts l w.1).5) (join _ _ (eq-eqb _ 0 z) (rw q r))

-- each accepted block is the one that the writer makes from what it holds
pub accepted_is_written : (l d : List ℕ) → AreBytes l → well_made_entries l ≡ true → 512 ≤ length d → write_entries (stored_number l) (record_bytes l) d ≡ wrote (splice d 0 l)
unfolding write_entries
accepted_is_written l d b h s =
    let c = well_made-count l h in
    let m : length (record_bytes l) ≡ count_of l * 32 = record_bytes-length l h in
    let z : length (record_bytes l) ≡ 0 → ⊥ = λ (e : length (record_bytes l) ≡ 0). omega arith in
    rw (ne_eqb (length (record_bytes l)) 0 z, le-ltb 480 (length (record_bytes l)) (omega arith), accepted_fits l h, le-ltb (length d) 512 s, accepted_is_image l b h)

-- the same by the calls: what the reader gives of a block is written as that block
pub read_is_written : (l d : List ℕ) (number count : ℕ) → AreBytes l → read_entries l ≡ Ok (record { number = number; count = count }) → 512 ≤ length d
    → write_entries number (record_bytes l) d ≡ wrote (splice d 0 l)
unfolding read_entries
read_is_written l d number count b r s = go (well_made_entries l) refl r
  where
    ok_same : {x y : EntriesRead} → ◌≡◌ {A = Result EntriesRead Refusal} (Ok x) (Ok y) → x ≡ y
    ok_same h = cc

    go : (t : Bool) → well_made_entries l ≡ t → cond {A = Result EntriesRead Refusal} t (Ok (record { number = stored_number l; count = count_of l })) (Err Malformed) ≡ Ok (record { number = number; count = count }) → write_entries number (record_bytes l) d ≡ wrote (splice d 0 l)
    go true e q = let n : stored_number l ≡ number = ap EntriesRead.number (ok_same q) in rw (← n) (accepted_is_written l d b e s)
    go false e q = cc

-- ---- from the writer
module _ (number : ℕ) (rs d : List ℕ) (done : (write_entries number rs d).answer ≡ 0) where
  -- one to fifteen whole records that fit, and room for the block
  taken : (1 ≤ length rs / 32) × (length rs ≤ 480) × (entries_fit number rs ≡ true) × (512 ≤ length d)
  unfolding write_entries entries_fit
  taken = go (eqb (length rs) 0) (ltb 480 (length rs)) (entries_fit number rs) (ltb (length d) 512) refl refl refl refl done
    where
      go : (p q u v : Bool) → eqb (length rs) 0 ≡ p → ltb 480 (length rs) ≡ q → entries_fit number rs ≡ u → ltb (length d) 512 ≡ v
          → (cond (p || q) (refused 12 d) (cond u (cond v (refused 11 d) (wrote (splice d 0 (image_entries number rs)))) (refused 1 d))).answer ≡ 0
          → (1 ≤ length rs / 32) × (length rs ≤ 480) × (entries_fit number rs ≡ true) × (512 ≤ length d)
      go true q u v a b c e z = absurd (omega arith)
      go false true u v a b c e z = absurd (omega arith)
      go false false false v a b c e z = absurd (omega arith)
      go false false true true a b c e z = absurd (omega arith)
      go false false true false a b c e z =
          let n : length rs ≡ 0 → ⊥ = eqb-false _ _ a in
          let w : length rs % 32 ≡ 0 = eqb-true _ _ (both (eqb (length rs % 32) 0) _ (both (leb 1 number) _ c).1).0 in
          (omega arith, ltb-false _ _ b, c, ltb-false _ _ e)

  -- the block stands in the first 512 bytes of the buffer
  pub written-block : take 512 (write_entries number rs d).buffer ≡ image_entries number rs
  unfolding write_entries
  written-block =
      let p = taken in
      let a : 1 ≤ length rs / 32 = p.0 in
      let z : length rs ≡ 0 → ⊥ = λ (e : length rs ≡ 0). omega arith in
      rw (ne_eqb (length rs) 0 z, le-ltb 480 (length rs) p.1, p.2, le-ltb (length d) 512 p.3)
      (take_at (image_entries number rs) (drop (0 + length (image_entries number rs)) d) 512 (image-length number rs p.1))

  module _ (small : number < 4294967296) where
    -- what is written is read: the number and the count
    pub written_is_read : read_entries (take 512 (write_entries number rs d).buffer) ≡ Ok (record { number = number; count = length rs / 32 })
    unfolding read_entries
    written_is_read =
        let p = taken in
        let r = reads_back number rs p.1 p.0 p.2 small in
        rw (written-block, r.accepted, r.number_back, r.count_back)

    -- and each record, whatever the area that it is read into held
    pub written-record_is_read : (k : ℕ) (e : List ℕ) → k < length rs / 32 → 32 ≤ length e
        → read_record (take 512 (write_entries number rs d).buffer) k e ≡ wrote (splice e 0 (take 32 (drop (k * 32) rs)))
    unfolding read_record
    written-record_is_read k e h s =
        let p = taken in
        let r = reads_back number rs p.1 p.0 p.2 small in
        rw (written-block, r.accepted, r.count_back, lt-ltb k (length rs / 32) h, le-ltb (length e) 32 s, r.record_back k h)
