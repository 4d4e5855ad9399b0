-- An entries block: what is written is read back, what is accepted is what the writer makes, and any one byte changed is refused. Assumes nothing.
use Prim.Native.Nat.{ℕ, ◌+◌, ◌*◌, ◌-◌, ◌/◌, ◌%◌, ◌≤◌, ◌<◌}
use mathlib.Core.Path.{◌≡◌, refl, ◌∙◌, sym, ap}
use mathlib.Core.Logic.{◌≢◌}
use mathlib.Core.List.{List, [], ◌∷◌, ◌++◌}
use mathlib.Core.Bool.{true, false, ◌&&◌}
use native.Mathlib.Omega.{arith}
use lib.Dec.{eqb, leb}
use lib.ListN.{length, get_or, take, drop, set, length-append, length-set, length-take, length-drop}
use lib.Seq.{drop-drop, take-add}
use borrow.Author.Tests.{eqb-true, eq-eqb, leb-true, le-leb}
use Rattle.codec.specs.Num.{AreBytes, bytes_of, num_at}
use Rattle.codec.specs.Every.{every, total, all_zero, blank}
use Rattle.checksum.specs.Check.{sealed, seal_of}
use Rattle.codec.proofs.BlankLaws.{blank-length}
use Rattle.codec.proofs.EveryLaws.{total-append, both, every_same, zero_part, zeros-blank, zero-sum}
use Rattle.codec.proofs.SpliceLaws.{part_part}
use Rattle.codec.proofs.Fronts.{front_part, front_num, front_byte, front_none}
use Rattle.codec.proofs.Has.{Has, has_last, has_more, has_num, has_part}
use Rattle.checksum.proofs.CheckLaws.{seal_length, seal_seals, sealed_is}
use Rattle.checksum.proofs.OneByte.{one_byte}
use Rattle.record.specs.Record.{well_made_record}
use Rattle.entries.specs.Starts.{record_start}
use Rattle.entries.specs.Entries.{count_of, stored_number, record_of, fields_fit, front_fits, tail_fits, body_fits, well_made_entries, entries_body, image_entries, records_fit, entries_fit}

pub body_length : (number : ℕ) (rs : List ℕ) → length rs ≤ 480 → length (entries_body number rs) ≡ 510
unfolding entries_body
body_length number rs h =
    let a = blank-length 8 in
    let b = blank-length (494 - length rs) in
    simp length-append (omega arith)

pub image-length : (number : ℕ) (rs : List ℕ) → length rs ≤ 480 → length (image_entries number rs) ≡ 512
unfolding image_entries
image-length number rs h = seal_length (entries_body number rs) (body_length number rs h)

-- ---- the records
-- the part of a block that is lent for a record
pub part_record : (l : List ℕ) (k o : ℕ) → o ≡ record_start k → take (o + 32 - o) (drop o l) ≡ record_of l k
unfolding record_of
part_record l k o e = let f : o + 32 - o ≡ 32 = omega arith in rw (f, e)

-- record k of the n bytes from 16 on
pub record_part : (l : List ℕ) (k n : ℕ) → k * 32 + 32 ≤ n → take 32 (drop (k * 32) (take n (drop 16 l))) ≡ record_of l k
unfolding record_of
record_part l k n h = let e : record_start k ≡ 16 + k * 32 = omega arith in rw e (part_part l 32 (k * 32) n 16 h)

-- the records of a block are those of its part from 16 on
pub records_part : (l : List ℕ) (count : ℕ) → records_fit (take (count * 32) (drop 16 l)) count ≡ every count (λ (k : ℕ). well_made_record (record_of l k))
unfolding records_fit
records_part l count = every_same count _ _ (λ (k : ℕ) (b : k < count). ap well_made_record (record_part l k (count * 32) (omega arith)))

-- ---- zeros behind the records
-- the places with no record, and the bytes behind all of them
pub tail_split : (l : List ℕ) (e : ℕ) → e ≤ 496 → all_zero (take (510 - e) (drop e l)) ≡ (all_zero (take (496 - e) (drop e l)) && all_zero (take 14 (drop 496 l)))
tail_split l e h =
    let a : 510 - e ≡ 496 - e + 14 = omega arith in
    let b : e + (496 - e) ≡ 496 = omega arith in
    rw (a, take-add (496 - e) 14 (drop e l), drop-drop (496 - e) e l, b, total-append (take (496 - e) (drop e l)) (take 14 (drop 496 l)))
    (zero-sum (total (take (496 - e) (drop e l))) (total (take 14 (drop 496 l))))

-- ---- the tests, part by part
pub fields_parts : (l : List ℕ) → fields_fit l ≡ true
    → (get_or l 0 0 ≡ 2) × (1 ≤ count_of l) × (count_of l ≤ 15) × (num_at 2 l 2 ≡ 0) × (1 ≤ stored_number l) × (all_zero (take 8 (drop 8 l)) ≡ true)
fields_parts l h =
    let b = both (eqb (get_or l 0 0) 2) _ h in
    let d = both (leb 1 (count_of l)) _ b.1 in
    let e = both (leb (count_of l) 15) _ d.1 in
    let f = both (eqb (num_at 2 l 2) 0) _ e.1 in
    let g = both (leb 1 (stored_number l)) _ f.1 in
    (eqb-true _ _ b.0, leb-true _ _ d.0, leb-true _ _ e.0, eqb-true _ _ f.0, leb-true _ _ g.0, g.1)

pub front_parts : (l : List ℕ) → front_fits l ≡ true
    → (sealed l ≡ true) × (get_or l 0 0 ≡ 2) × (1 ≤ count_of l) × (count_of l ≤ 15) × (num_at 2 l 2 ≡ 0) × (1 ≤ stored_number l) × (all_zero (take 8 (drop 8 l)) ≡ true)
unfolding front_fits
front_parts l h =
    let a = both (sealed l) _ h in
    let p = fields_parts l a.1 in
    (a.0, p.0, p.1, p.2, p.3, p.4, p.5)

pub well_made_parts : (l : List ℕ) → well_made_entries l ≡ true → (length l ≡ 512) × (front_fits l ≡ true) × (body_fits l (count_of l) ≡ true)
unfolding well_made_entries
well_made_parts l h =
    let a = both (eqb (length l) 512) _ h in
    let b = both (front_fits l) _ a.1 in
    (eqb-true _ _ a.0, b.0, b.1)

pub well_made-length : (l : List ℕ) → well_made_entries l ≡ true → length l ≡ 512
well_made-length l h = (well_made_parts l h).0

pub well_made-count : (l : List ℕ) → well_made_entries l ≡ true → (1 ≤ count_of l) × (count_of l ≤ 15)
well_made-count l h = let p = front_parts l (well_made_parts l h).1 in (p.2, p.3)

-- ---- the block
-- the records' bytes of a block
unfoldable pub record_bytes : List ℕ → List ℕ
record_bytes l = take (count_of l * 32) (drop 16 l)

-- each accepted block is the one that the writer makes from what the reader gives of it
pub accepted_is_image : (l : List ℕ) → AreBytes l → well_made_entries l ≡ true → image_entries (stored_number l) (record_bytes l) ≡ l
unfolding image_entries entries_body body_fits record_bytes
accepted_is_image l b h =
    let w = well_made_parts l h in
    let p = front_parts l w.1 in
    let n : length l ≡ 512 = w.0 in
    let count : ℕ = count_of l in
    let rs : List ℕ = take (count * 32) (drop 16 l) in
    let hi : count ≤ 15 = p.3 in
    let m : length rs ≡ count * 32 = simp (length-take, length-drop) (omega arith) in
    let e : record_start count ≡ 16 + count * 32 = omega arith in
    let z : all_zero (take (510 - (16 + count * 32)) (drop (16 + count * 32) l)) ≡ true = rw e at (both (every count (λ (k : ℕ). well_made_record (record_of l k))) (tail_fits l count) w.2).1 in
    let c1 : get_or l 1 0 ≡ length rs / 32 = omega arith in
    let k : 510 - (16 + count * 32) ≡ 494 - length rs = omega arith in
    let f1 = front_byte l b 0 [] (front_none l b) (omega arith) in
    let f2 = front_byte l b 1 _ f1 (omega arith) in
    let f3 = front_num l b 2 2 _ f2 (omega arith) in
    let f4 = front_num l b 4 4 _ f3 (omega arith) in
    let f5 = front_part l b 8 8 _ (blank 8) f4 (zero_part l 8 8 (omega arith) p.6) in
    let f6 = front_part l b (count * 32) 16 _ rs f5 refl in
    let f7 = front_part l b (494 - length rs) (16 + count * 32) _ (blank (494 - length rs)) f6 (rw k at (zero_part l (510 - (16 + count * 32)) (16 + count * 32) (omega arith) z)) in
    let j : 16 + count * 32 + (494 - length rs) ≡ 510 = omega arith in
    rw (← c1) (ap seal_of (rw (j, p.1, p.4) at f7.is) ∙ sealed_is l b n p.0)

-- a block that differs from an accepted one in exactly one byte is refused
pub one_byte-refused : (l : List ℕ) (p y : ℕ) → AreBytes l → p < 512 → y < 256 → get_or l p 0 ≢ y → well_made_entries l ≡ true → well_made_entries (set l p y) ≡ false
unfolding well_made_entries front_fits
one_byte-refused l p y b h g d w =
    let q = well_made_parts l w in
    let n : length (set l p y) ≡ 512 = rw length-set q.0 in
    rw (eq-eqb _ 512 n, one_byte l p y q.0 b h g d (front_parts l q.1).0)

-- what is written can be read: the number, the count, and each record
pub record Reads (number : ℕ) (rs : List ℕ) : Type 0 where
  pub accepted : well_made_entries (image_entries number rs) ≡ true
  pub number_back : stored_number (image_entries number rs) ≡ number
  pub count_back : count_of (image_entries number rs) ≡ length rs / 32
  pub record_back : (k : ℕ) → k < length rs / 32 → record_of (image_entries number rs) k ≡ take 32 (drop (k * 32) rs)

module _ (number : ℕ) (rs : List ℕ) (few : length rs ≤ 480) (some : 1 ≤ length rs / 32) (fits : entries_fit number rs ≡ true) (small : number < 4294967296) where
  x : List ℕ
  x = image_entries number rs

  -- the places of the pieces of a block
  record Places : Type 0 where
    kind_at : get_or x 0 0 ≡ 2
    count_at : get_or x 1 0 ≡ length rs / 32
    spare_at : num_at 2 x 2 ≡ 0
    number_at : Has x 4 (bytes_of 4 number)
    zeros_at : Has x 8 (blank 8)
    records_at : Has x 16 rs
    rest_at : Has x (16 + length rs) (blank (494 - length rs))

  places : Places
  unfolding x image_entries entries_body seal_of
  places =
      let a : List ℕ = 2 ∷ length rs / 32 ∷ 0 ∷ 0 ∷ [] in
      let b : List ℕ = a ++ bytes_of 4 number in
      let d : List ℕ = b ++ blank 8 in
      let e : List ℕ = d ++ rs in
      let z = blank-length 8 in
      let nd : length d ≡ 16 = simp length-append (omega arith) in
      let ne : length e ≡ 16 + length rs = simp length-append (omega arith) in
      record {
        kind_at = refl;
        count_at = refl;
        spare_at = refl;
        number_at = has_more _ (has_more (blank (494 - length rs)) (has_more rs (has_more (blank 8) (has_last a (bytes_of 4 number) 4 refl))));
        zeros_at = has_more _ (has_more (blank (494 - length rs)) (has_more rs (has_last b (blank 8) 8 refl)));
        records_at = has_more _ (has_more (blank (494 - length rs)) (has_last d rs 16 nd));
        rest_at = has_more _ (has_last e (blank (494 - length rs)) (16 + length rs) ne);
      }

  fit_parts : (1 ≤ number) × (length rs % 32 ≡ 0) × (records_fit rs (length rs / 32) ≡ true)
  unfolding entries_fit
  fit_parts =
      let a = both (leb 1 number) _ fits in
      let b = both (eqb (length rs % 32) 0) _ a.1 in
      (leb-true _ _ a.0, eqb-true _ _ b.0, b.1)

  number_is : stored_number x ≡ number
  number_is = has_num 4 number places.number_at small

  record_is : (k : ℕ) → k < length rs / 32 → record_of x k ≡ take 32 (drop (k * 32) rs)
  record_is k h =
      let r : take (length rs) (drop 16 x) ≡ rs = has_part rs (length rs) places.records_at refl in
      sym (rw r at (record_part x k (length rs) (omega arith)))

  sealed_x : sealed x ≡ true
  unfolding x image_entries
  sealed_x = seal_seals (entries_body number rs) (body_length number rs few)

  front_x : front_fits x ≡ true
  unfolding front_fits
  front_x =
      let a : all_zero (take 8 (drop 8 x)) ≡ true = rw (has_part (blank 8) 8 places.zeros_at (blank-length 8)) (zeros-blank 8) in
      let f = fit_parts in
      rw (sealed_x, places.kind_at, places.count_at, le-leb 1 _ some, le-leb (length rs / 32) 15 (omega arith), places.spare_at, number_is, le-leb 1 number f.0, a)

  body_x : body_fits x (length rs / 32) ≡ true
  unfolding body_fits records_fit
  body_x =
      let f = fit_parts in
      let e : record_start (length rs / 32) ≡ 16 + length rs = omega (arith, f.1) in
      let k : 510 - (16 + length rs) ≡ 494 - length rs = omega arith in
      let z : all_zero (take (494 - length rs) (drop (16 + length rs) x)) ≡ true = rw (has_part (blank (494 - length rs)) (494 - length rs) places.rest_at (blank-length (494 - length rs))) (zeros-blank (494 - length rs)) in
      let r : every (length rs / 32) (λ (k : ℕ). well_made_record (record_of x k)) ≡ true = every_same (length rs / 32) _ _ (λ (k : ℕ) (h : k < length rs / 32). ap well_made_record (record_is k h)) ∙ f.2 in
      rw (r, e, k, z)

  -- blocks read back as written
  pub reads_back : Reads number rs
  unfolding well_made_entries x
  reads_back =
      record {
        accepted = rw (eq-eqb _ 512 (image-length number rs few), front_x, places.count_at, body_x);
        number_back = number_is;
        count_back = places.count_at;
        record_back = record_is;
      }
