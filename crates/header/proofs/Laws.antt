-- A header block: what is written is read back, what is accepted is what the writer makes, and any one byte changed is refused. Assumes nothing.
use Prim.Native.Nat.{ℕ, zero, suc, ◌+◌, ◌*◌, ◌/◌, ◌%◌, ◌<◌, ◌≤◌}
use mathlib.Core.Path.{◌≡◌, refl, ◌∙◌, sym, ap}
use mathlib.Core.Logic.{◌≢◌}
use mathlib.Core.List.{List, [], ◌∷◌, ◌++◌}
use mathlib.Core.Bool.{Bool, true, false, ◌&&◌, and-false, and-true}
use native.Mathlib.Omega.{arith}
use lib.Dec.{eqb, leb}
use lib.ListN.{length, get_or, take, drop, set, length-append, length-set, length-take, length-drop}
use lib.Seq.{get_or-take, get_or-drop, ext_get_or}
use borrow.Author.Tests.{eqb-true, eq-eqb, leb-true}
use Rattle.codec.specs.Num.{AreBytes, bytes_of, nums_of}
use Rattle.codec.specs.Every.{every, all_zero, blank}
use Rattle.checksum.specs.Check.{sealed, seal_of}
use Rattle.codec.proofs.NumLaws.{nums_length, Below}
use Rattle.codec.proofs.BlankLaws.{blank-length}
use Rattle.codec.proofs.EveryLaws.{both, every_same, zero_part, zeros-blank}
use Rattle.codec.proofs.FlagLaws.{every-rows}
use Rattle.codec.proofs.Stride.{upto-length, upto_at, upto_is}
use Rattle.codec.proofs.Fronts.{front_part, front_nums, front_num, front_byte, front_none}
use Rattle.codec.proofs.Has.{Has, has_last, has_more, has_num, has_nums, has_part, has_at}
use Rattle.checksum.proofs.OneByte.{one_byte}
use Rattle.checksum.proofs.CheckLaws.{seal_length, seal_seals, sealed_is}
use Rattle.header.specs.Header.{row_in_range, limits_in_range, header_fits, table_at, table_of, parse_header, header_body, image_header, well_made_header}
use Rattle.header.specs.declared.Header.{Header}

pub table-length : (m : List (List ℕ)) → length (table_of m) ≡ 64
unfolding table_of
table-length m = upto-length 64 _

pub body_length : (h : Header) (m : List (List ℕ)) → length (header_body h m) ≡ 510
unfolding header_body
body_length h m =
    let a = table-length m in
    let b = blank-length 12 in
    let d = blank-length 414 in
    simp length-append (omega arith)

pub image-length : (h : Header) (m : List (List ℕ)) → length (image_header h m) ≡ 512
unfolding image_header
image-length h m = seal_length (header_body h m) (body_length h m)

-- the test, part by part
pub well_made_parts : (l : List ℕ) → well_made_header l ≡ true
    → (length l ≡ 512) × (sealed l ≡ true) × (get_or l 0 0 ≡ 1) × (all_zero (take 12 (drop 4 l)) ≡ true) × (all_zero (take 414 (drop 96 l)) ≡ true) × (header_fits (parse_header l) (table_at 8 l 32) ≡ true)
unfolding well_made_header
well_made_parts l h =
    let a = both (eqb (length l) 512) _ h in
    let b = both (sealed l) _ a.1 in
    let d = both (eqb (get_or l 0 0) 1) _ b.1 in
    let e = both (all_zero (take 12 (drop 4 l))) _ d.1 in
    let f = both (all_zero (take 414 (drop 96 l))) _ e.1 in
    (eqb-true _ _ a.0, b.0, eqb-true _ _ d.0, e.0, f.0, f.1)

-- the same in another order
in_order_lem : (a k z y f : Bool) → (a && (k && (z && (y && f)))) ≡ (k && f && (y && (z && a)))
in_order_lem a false z y f = and-false a
in_order_lem a true z y false = simp and-false
in_order_lem a true z false true = simp and-false
in_order_lem a true false true true = and-false a
in_order_lem a true true true true = and-true a

-- the test of 512 bytes, the check last
pub check_last : (l : List ℕ) → length l ≡ 512
    → well_made_header l ≡ (eqb (get_or l 0 0) 1 && header_fits (parse_header l) (table_at 8 l 32) && (all_zero (take 414 (drop 96 l)) && (all_zero (take 12 (drop 4 l)) && sealed l)))
unfolding well_made_header
check_last l n = rw (eq-eqb _ 512 n) (in_order_lem (sealed l) (eqb (get_or l 0 0) 1) (all_zero (take 12 (drop 4 l))) (all_zero (take 414 (drop 96 l))) (header_fits (parse_header l) (table_at 8 l 32)))

pub well_made-length : (l : List ℕ) → well_made_header l ≡ true → length l ≡ 512
well_made-length l h = (well_made_parts l h).0

-- the stations of a well_made_lem header
pub header-small : (l : List ℕ) → well_made_header l ≡ true → (parse_header l).n ≤ 8
unfolding header_fits
header-small l h =
    let p = (well_made_parts l h).5 in
    let a = both (leb 1 (parse_header l).n) _ p in
    leb-true _ _ (both (leb (parse_header l).n 8) _ a.1).0

-- ---- the table of limits
-- row i, place j of a table in bytes
pub table_at_lem : (n : ℕ) (l : List ℕ) (at i j : ℕ) → i < n → j < 8 → get_or (get_or (table_at n l at) i []) j 0 ≡ get_or l (at + (i * 8 + j)) 0
unfolding table_at
table_at_lem zero l at i j h g = absurd (omega arith)
table_at_lem (suc n) l at zero j h g = upto_at 8 (λ (k : ℕ). get_or l (at + k) 0) j 0 g ∙ ap (λ (k : ℕ). get_or l k 0) (omega arith)
table_at_lem (suc n) l at (suc i) j h g = table_at_lem n l (at + 8) i j (omega arith) g ∙ ap (λ (k : ℕ). get_or l k 0) (omega arith)

pub table-rows : (n : ℕ) (l : List ℕ) (at : ℕ) → length (table_at n l at) ≡ n
unfolding table_at
table-rows zero l at = refl
table-rows (suc n) l at = ap suc (table-rows n l (at + 8))

pub table-row : (n : ℕ) (l : List ℕ) (at i : ℕ) → i < n → length (get_or (table_at n l at) i []) ≡ 8
unfolding table_at
table-row zero l at i h = absurd (omega arith)
table-row (suc n) l at zero h = upto-length 8 _
table-row (suc n) l at (suc i) h = table-row n l (at + 8) i (omega arith)

-- the limits of a table in bytes, byte by byte
pub limits_bytes : (l : List ℕ) (at : ℕ) → limits_in_range (table_at 8 l at) ≡ every 64 (λ (k : ℕ). leb (get_or l (at + k) 0) 32)
unfolding limits_in_range row_in_range
limits_bytes l at =
    every_same 8 _ _ (λ (i : ℕ) (h : i < 8). every_same 8 _ _ (λ (j : ℕ) (g : j < 8). ap (λ (x : ℕ). leb x 32) (table_at_lem 8 l at i j h g)))
    ∙ sym (every-rows 8 8 (λ (k : ℕ). leb (get_or l (at + k) 0) 32))

-- a table that is read and written again
pub table-forth : (l : List ℕ) (at : ℕ) → at + 64 ≤ length l → table_of (table_at 8 l at) ≡ take 64 (drop at l)
unfolding table_of
table-forth l at n =
    upto_is 64 _ (take 64 (drop at l)) 0 (simp (length-take, length-drop) (omega arith))
    (λ (k : ℕ) (h : k < 64). table_at_lem 8 l at (k / 8) (k % 8) (omega arith) (omega arith) ∙ ap (λ (x : ℕ). get_or l (at + x) 0) (omega arith)
    ∙ sym (get_or-take 64 (drop at l) k 0 h ∙ get_or-drop at l k 0))

-- eight rows of eight bytes
pub record Table (m : List (List ℕ)) : Type 0 where
  pub rows : length m ≡ 8
  pub cells : (i : ℕ) → i < 8 → length (get_or m i []) ≡ 8

-- a table that is written and read again
table_back : (m : List (List ℕ)) → Table m → (l : List ℕ) → Has l 32 (table_of m) → table_at 8 l 32 ≡ m
unfolding table_of
table_back m y l h =
    let r = y.rows in
    ext_get_or [] (table_at 8 l 32) m (table-rows 8 l 32 ∙ sym y.rows)
    (λ (i : ℕ) (b : i < length (table_at 8 l 32)). row i (omega (arith, table-rows 8 l 32)))
  where
    row : (i : ℕ) → i < 8 → get_or (table_at 8 l 32) i [] ≡ get_or m i []
    row i b =
        let s = table-row 8 l 32 i b in
        ext_get_or 0 _ _ (s ∙ sym (y.cells i b))
        (λ (j : ℕ) (d : j < length (get_or (table_at 8 l 32) i [])).
        let e : j < 8 = omega arith in
        let f : (i * 8 + j) / 8 ≡ i = omega arith in
        let g : (i * 8 + j) % 8 ≡ j = omega arith in
        let u = upto_at 64 (λ (k : ℕ). get_or (get_or m (k / 8) []) (k % 8) 0) (i * 8 + j) 0 (omega arith) in
        table_at_lem 8 l 32 i j b e ∙ has_at (table_of m) (i * 8 + j) h (omega (arith, table-length m)) ∙ (rw (f, g) at u))

-- ---- the block
-- each accepted block is the one that the writer makes from what the reader gives of it
pub accepted_is_image : (l : List ℕ) → AreBytes l → well_made_header l ≡ true → image_header (parse_header l) (table_at 8 l 32) ≡ l
unfolding image_header header_body
accepted_is_image l b h =
    let p = well_made_parts l h in
    let n : length l ≡ 512 = p.0 in
    let f1 = front_byte l b 0 [] (front_none l b) (omega arith) in
    let f2 = front_byte l b 1 _ f1 (omega arith) in
    let f3 = front_num l b 2 2 _ f2 (omega arith) in
    let f4 = front_part l b 12 4 _ (blank 12) f3 (zero_part l 12 4 (omega arith) p.3) in
    let f5 = front_nums l b 2 8 16 _ f4 (omega arith) in
    let f6 = front_part l b 64 32 _ (table_of (table_at 8 l 32)) f5 (sym (table-forth l 32 (omega arith))) in
    let f7 = front_part l b 414 96 _ (blank 414) f6 (zero_part l 414 96 (omega arith) p.4) in
    ap seal_of (rw p.2 at f7.is) ∙ sealed_is l b n p.1

-- a block that differs from an accepted one in exactly one byte is refused
pub one_byte-refused : (l : List ℕ) (p y : ℕ) → AreBytes l → p < 512 → y < 256 → get_or l p 0 ≢ y → well_made_header l ≡ true → well_made_header (set l p y) ≡ false
unfolding well_made_header
one_byte-refused l p y b h g d w =
    let q = well_made_parts l w in
    let n : length (set l p y) ≡ 512 = rw length-set q.0 in
    rw (eq-eqb _ 512 n, one_byte l p y q.0 b h g d q.1)

-- what the types say of a header's fields
pub record Typed (h : Header) : Type 0 where
  pub n : h.n < 256
  pub t : h.t < 65536
  pub eight : length h.allowances ≡ 8
  pub allowances : Below 65536 h.allowances

module _ (h : Header) (m : List (List ℕ)) where
  -- the places of the pieces of a block
  record Places : Type 0 where
    n_at : get_or (image_header h m) 1 0 ≡ h.n
    kind_at : get_or (image_header h m) 0 0 ≡ 1
    t_at : Has (image_header h m) 2 (bytes_of 2 h.t)
    spare_at : Has (image_header h m) 4 (blank 12)
    allowances_at : Has (image_header h m) 16 (nums_of 2 8 h.allowances)
    limits_at : Has (image_header h m) 32 (table_of m)
    rest_at : Has (image_header h m) 96 (blank 414)

  places : Places
  unfolding image_header header_body seal_of
  places =
      let a : List ℕ = 1 ∷ h.n ∷ [] in
      let b : List ℕ = a ++ bytes_of 2 h.t in
      let d : List ℕ = b ++ blank 12 in
      let e : List ℕ = d ++ nums_of 2 8 h.allowances in
      let f : List ℕ = e ++ table_of m in
      let z = blank-length 12 in
      let y = nums_length 2 8 h.allowances in
      let x = table-length m in
      let nb : length b ≡ 4 = refl in
      let nd : length d ≡ 16 = simp length-append (omega arith) in
      let ne : length e ≡ 32 = simp length-append (omega arith) in
      let nf : length f ≡ 96 = simp length-append (omega arith) in
      record {
        n_at = refl;
        kind_at = refl;
        t_at = has_more _ (has_more (blank 414) (has_more (table_of m) (has_more (nums_of 2 8 h.allowances) (has_more (blank 12) (has_last a (bytes_of 2 h.t) 2 refl)))));
        spare_at = has_more _ (has_more (blank 414) (has_more (table_of m) (has_more (nums_of 2 8 h.allowances) (has_last b (blank 12) 4 nb))));
        allowances_at = has_more _ (has_more (blank 414) (has_more (table_of m) (has_last d (nums_of 2 8 h.allowances) 16 nd)));
        limits_at = has_more _ (has_more (blank 414) (has_last e (table_of m) 32 ne));
        rest_at = has_more _ (has_last f (blank 414) 96 nf);
      }

  -- blocks read back as written
  pub parse_image : Typed h → parse_header (image_header h m) ≡ h
  parse_image y =
      rw (places.n_at, has_num 2 h.t places.t_at y.t, has_nums 2 8 h.allowances places.allowances_at y.eight y.allowances)

  pub table-image : Table m → table_at 8 (image_header h m) 32 ≡ m
  table-image y = table_back m y (image_header h m) places.limits_at

  image-sealed : sealed (image_header h m) ≡ true
  unfolding image_header
  image-sealed = seal_seals (header_body h m) (body_length h m)

  pub image-accepted : Typed h → Table m → header_fits h m ≡ true → well_made_header (image_header h m) ≡ true
  unfolding well_made_header
  image-accepted y z f =
      let x : List ℕ = image_header h m in
      let a : all_zero (take 12 (drop 4 x)) ≡ true = rw (has_part (blank 12) 12 places.spare_at (blank-length 12)) (zeros-blank 12) in
      let b : all_zero (take 414 (drop 96 x)) ≡ true = rw (has_part (blank 414) 414 places.rest_at (blank-length 414)) (zeros-blank 414) in
      let d : header_fits (parse_header x) (table_at 8 x 32) ≡ true = rw (parse_image y, table-image z) f in
      rw (eq-eqb _ 512 (image-length h m), image-sealed, places.kind_at, a, b, d)
