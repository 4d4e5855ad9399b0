-- The fields of a header, in numbers and bytes. Assumes nothing.
use Prim.Native.Nat.{ℕ, ◌+◌, ◌≤◌, ◌<◌}
use native.Mathlib.Omega.{arith}
use mathlib.Core.Path.{◌≡◌, refl, ap, ◌∙◌}
use mathlib.Core.List.{List, [], ◌∷◌, ◌++◌}
use mathlib.Core.Bool.{Bool, true, false, cond}
use lib.Dec.{eqb, leb, ltb}
use lib.ListN.{length, get_or, take, drop, length-take, length-drop}
use lib.Seq.{drop-cons, take_all, take_at}
use borrow.Author.Tests.{eqb-true, leb-true, le-ltb}
use Rattle.codec.specs.Num.{AreBytes, bytes_of, num_at, nums_of, nums_at}
use Rattle.codec.specs.Splice.{splice}
use Rattle.codec.specs.Written.{refused, wrote}
use Rattle.codec.proofs.EveryLaws.{both}
use Rattle.codec.proofs.Fronts.{bytes_at_lem, nums_at_lem}
use Rattle.codec.proofs.Has.{nums_below}
use Rattle.codec.proofs.SpliceLaws.{first, next}
use Rattle.header.specs.Header.{header_fits, table_at, table_of, parse_header, image_header, write_header}
use Rattle.header.specs.declared.Header.{Header}
use Rattle.header.proofs.Laws.{Typed, Table, table-forth, table-rows, table-row, image-length, parse_image, table-image, image-accepted}
use Rattle.host_numbers.specs.Headers.{fields_fit, header_given, header_written, field_bytes, header_fields}

-- fields that fit, part by part
pub fit_parts : (n t : ℕ) (x m : List ℕ) → fields_fit n t x m ≡ true → (length x ≡ 16) × (length m ≡ 64) × (n ≤ 255) × (t ≤ 65535)
unfolding fields_fit
fit_parts n t x m h =
    let p = both (eqb (length x) 16) _ h in
    let q = both (eqb (length m) 64) _ p.1 in
    let r = both (leb n 255) _ q.1 in
    (eqb-true _ _ p.0, eqb-true _ _ q.0, leb-true _ _ r.0, leb-true _ _ r.1)

-- the fields of a block stand in its bytes 1 to 3, 16 to 31 and 32 to 95
fields_are : (l : List ℕ) → AreBytes l → length l ≡ 512 → take 3 (drop 1 l) ++ take 16 (drop 16 l) ++ take 64 (drop 32 l) ≡ field_bytes (parse_header l) (table_at 8 l 32)
unfolding field_bytes
fields_are l b n =
    let i : 1 < length l = omega arith in
    let e : take 3 (drop 1 l) ≡ get_or l 1 0 ∷ take 2 (drop 2 l) = rw (drop-cons l 1 0 i) in
    joined l (bytes_of 2 (num_at 2 l 2)) (nums_of 2 8 (nums_at 2 8 l 16)) (table_of (table_at 8 l 32)) e (bytes_at_lem 2 l 2 b (omega arith)) (nums_at_lem 2 8 l 16 b (omega arith)) (table-forth l 32 (omega arith))
  where
    joined : (l p q r : List ℕ) → take 3 (drop 1 l) ≡ get_or l 1 0 ∷ take 2 (drop 2 l) → p ≡ take 2 (drop 2 l) → q ≡ take 16 (drop 16 l) → r ≡ take 64 (drop 32 l)
        → take 3 (drop 1 l) ++ take 16 (drop 16 l) ++ take 64 (drop 32 l) ≡ (get_or l 1 0 ∷ []) ++ p ++ q ++ r
    joined l p q r e f g h = rw (e, ← f, ← g, ← h)

-- the three parts, copied one behind the other
pub fields_put : (l d d1 d2 d3 : List ℕ) → AreBytes l → length l ≡ 512 → 83 ≤ length d
    → d1 ≡ splice d 0 (take 3 (drop 1 l)) → d2 ≡ splice d1 3 (take 16 (drop 16 l)) → d3 ≡ splice d2 19 (take 64 (drop 32 l))
    → d3 ≡ splice d 0 (field_bytes (parse_header l) (table_at 8 l 32))
fields_put l d d1 d2 d3 b n s e f g =
    let p : length (take 3 (drop 1 l)) ≡ 3 = simp (length-take, length-drop) (omega arith) in
    let q : length (take 16 (drop 16 l)) ≡ 16 = simp (length-take, length-drop) (omega arith) in
    let r : length (take 64 (drop 32 l)) ≡ 64 = simp (length-take, length-drop) (omega arith) in
    let v = next (take 16 (drop 16 l)) d2 16 (first d (take 3 (drop 1 l)) d1 3 p e) (omega arith) q f in
    (next (take 64 (drop 32 l)) d3 64 v (omega arith) r g).is ∙ ap (λ (v : List ℕ). splice d 0 v) (fields_are l b n)

-- ---- what is written is read back
module _ (n t : ℕ) (x m : List ℕ) (bytes : AreBytes x) (fit : fields_fit n t x m ≡ true) where
  typed : Typed (header_given n t x)
  typed =
      let p = fit_parts n t x m fit in
      record { n = omega arith; t = omega arith; eight = refl; allowances = nums_below 2 8 x 0 bytes }

  table : Table (table_at 8 m 0)
  table = record { rows = table-rows 8 m 0; cells = λ (i : ℕ) (h : i < 8). table-row 8 m 0 i h }

  bytes_given : field_bytes (header_given n t x) (table_at 8 m 0) ≡ (n ∷ []) ++ bytes_of 2 t ++ x ++ m
  unfolding field_bytes
  bytes_given =
      let p = fit_parts n t x m fit in
      let a : nums_of 2 8 (nums_at 2 8 x 0) ≡ x = nums_at_lem 2 8 x 0 bytes (omega arith) ∙ take_all 16 x (omega arith) in
      let b : table_of (table_at 8 m 0) ≡ m = table-forth m 0 (omega arith) ∙ take_all 64 m (omega arith) in
      ap (λ (v : List ℕ). (n ∷ []) ++ bytes_of 2 t ++ v ++ table_of (table_at 8 m 0)) a ∙ ap (λ (v : List ℕ). (n ∷ []) ++ bytes_of 2 t ++ x ++ v) b

  image_fields : (e : List ℕ) → header_fits (header_given n t x) (table_at 8 m 0) ≡ true → 83 ≤ length e
      → header_fields (image_header (header_given n t x) (table_at 8 m 0)) e ≡ wrote (splice e 0 ((n ∷ []) ++ bytes_of 2 t ++ x ++ m))
  unfolding header_fields
  image_fields e h s =
      rw (image-accepted (header_given n t x) (table_at 8 m 0) typed table h, le-ltb _ 83 s, parse_image (header_given n t x) (table_at 8 m 0) typed, table-image (header_given n t x) (table_at 8 m 0) table, bytes_given)

-- a header that is written: its fields are read as n, t and the bytes that were given
pub read_back : (n t : ℕ) (x m d e : List ℕ) → AreBytes x → (header_written n t x m d).answer ≡ 0 → 83 ≤ length e
    → header_fields (take 512 (header_written n t x m d).buffer) e ≡ wrote (splice e 0 ((n ∷ []) ++ bytes_of 2 t ++ x ++ m))
unfolding header_written write_header
read_back n t x m d e b z s = go (fields_fit n t x m) (header_fits h k) (ltb (length d) 512) refl refl z
  where
    h : Header
    h = header_given n t x

    k : List (List ℕ)
    k = table_at 8 m 0

    go : (u v w : Bool) → fields_fit n t x m ≡ u → header_fits h k ≡ v
        → (cond u (cond v (cond w (refused 11 d) (wrote (splice d 0 (image_header h k)))) (refused 1 d)) (refused 1 d)).answer ≡ 0
        → header_fields (take 512 (cond u (cond v (cond w (refused 11 d) (wrote (splice d 0 (image_header h k)))) (refused 1 d)) (refused 1 d)).buffer) e
        ≡ wrote (splice e 0 ((n ∷ []) ++ bytes_of 2 t ++ x ++ m))
    go false v w f g q = absurd (omega arith)
    go true false w f g q = absurd (omega arith)
    go true true true f g q = absurd (omega arith)
    go true true false f g q = rw (take_at (image_header h k) (drop (0 + length (image_header h k)) d) 512 (image-length h k)) (image_fields n t x m b f e g s)
