-- A tested archive is its header's image and the images of its entries blocks, so that its fields and its records are all that it holds. Assumes nothing.
use Prim.Native.Nat.{ℕ, zero, suc, ◌+◌, ◌*◌, ◌-◌, ◌/◌, ◌%◌, min, ◌≤◌, ◌<◌}
use mathlib.Core.Path.{◌≡◌, refl, ◌∙◌, sym, ap}
use mathlib.Core.List.{List, [], ◌++◌}
use mathlib.Core.Bool.{Bool, true, false}
use native.Mathlib.Omega.{arith}
use native.Mathlib.Nat.{zero-mul, suc-mul}
use lib.Dec.{eqb}
use lib.ListN.{length, take, drop, length-drop, take-append-drop}
use lib.Seq.{take-add, take_all, drop-drop}
use borrow.Author.Tests.{eqb-true, eqb-false, ne_eqb, eq-eqb}
use Rattle.codec.specs.Num.{AreBytes}
use Rattle.codec.proofs.Fronts.{bytes_take, bytes_drop}
use Rattle.header.specs.Header.{table_at, parse_header, image_header}
use Rattle.header.specs.declared.Header.{Header}
use Rattle.header.proofs.Laws as header-laws
use Rattle.entries.specs.Starts.{record_start}
use Rattle.entries.specs.Entries.{count_of, record_of, image_entries}
use Rattle.entries.proofs.Laws.{well_made-count, record_bytes, accepted_is_image}
use Rattle.archive.specs.Archive.{block_of, blocks, archive_test, records, record_at}
use Rattle.archive.proofs.Laws.{test_parts, test-blocks, block_parts}
use Rattle.archive.proofs.Tested.{full, record_place}

-- ---- parts one behind the other
-- f 0, f 1, .. up to f (n - 1)
unfoldable pub joined : ℕ → (ℕ → List ℕ) → List ℕ
joined zero f = []
joined (suc n) f = joined n f ++ f n

-- parts of one size that are those of a list
joined_is : (n w at : ℕ) (l : List ℕ) (f : ℕ → List ℕ) → ((i : ℕ) → i < n → f i ≡ take w (drop (at + i * w) l)) → joined n f ≡ take (n * w) (drop at l)
unfolding joined
joined_is zero w at l f h = rw zero-mul
joined_is (suc n) w at l f h = rw (joined_is n w at l f (λ (i : ℕ) (b : i < n). h i (omega arith)), h n (omega arith), suc-mul, take-add, drop-drop)

-- parts that agree
joined_same : (n : ℕ) (f g : ℕ → List ℕ) → ((i : ℕ) → i < n → f i ≡ g i) → joined n f ≡ joined n g
unfolding joined
joined_same zero f g h = refl
joined_same (suc n) f g h = rw (joined_same n f g (λ (i : ℕ) (b : i < n). h i (omega arith)), h n (omega arith))

-- ---- an archive of header fields, limits and n records
-- the bytes of the records in block b: fifteen, or what is left of n
unfoldable pub records_of_block : ℕ → (ℕ → List ℕ) → ℕ → List ℕ
records_of_block n r b = joined (min 15 (n - b * 15)) (λ (k : ℕ). r (b * 15 + k))

-- the header's image, and behind it those of the entries blocks, numbered 1, 2, 3 ..
unfoldable pub image_archive : Header → List (List ℕ) → ℕ → (ℕ → List ℕ) → List ℕ
image_archive h m n r = image_header h m ++ joined ((n + 14) / 15) (λ (b : ℕ). image_entries (b + 1) (records_of_block n r b))

-- it reads the first n records alone
pub image_same : (h : Header) (m : List (List ℕ)) (n : ℕ) (r q : ℕ → List ℕ) → ((k : ℕ) → k < n → r k ≡ q k) → image_archive h m n r ≡ image_archive h m n q
unfolding image_archive records_of_block
image_same h m n r q e =
    ap (λ (l : List ℕ). image_header h m ++ l)
    (joined_same ((n + 14) / 15) _ _ (λ (b : ℕ) (c : b < (n + 14) / 15).
    ap (image_entries (b + 1)) (joined_same (min 15 (n - b * 15)) _ _ (λ (k : ℕ) (d : k < min 15 (n - b * 15)). e (b * 15 + k) (omega arith)))))

-- ---- a tested archive
module _ (a : List ℕ) (bytes : AreBytes a) (tested : archive_test a ≡ true) where
  block_bytes : (b : ℕ) → AreBytes (block_of a b)
  unfolding block_of
  block_bytes b = bytes_take 512 (drop ((b + 1) * 512) a) (bytes_drop ((b + 1) * 512) a bytes)

  block_part : (b : ℕ) → block_of a b ≡ take 512 (drop (512 + b * 512) a)
  unfolding block_of
  block_part b = let e : (b + 1) * 512 ≡ 512 + b * 512 = omega arith in rw e

  block_is : (b : ℕ) → b < blocks a → image_entries (b + 1) (record_bytes (block_of a b)) ≡ take 512 (drop (512 + b * 512) a)
  block_is b h =
      let p = block_parts a tested b h in
      ap (λ (x : ℕ). image_entries x (record_bytes (block_of a b))) (sym p.1) ∙ accepted_is_image (block_of a b) (block_bytes b) p.0 ∙ block_part b

  -- it is its header's image followed by the images of its entries blocks
  pub archive_by_blocks : a ≡ image_header (parse_header (take 512 a)) (table_at 8 (take 512 a) 32) ++ joined (blocks a) (λ (b : ℕ). image_entries (b + 1) (record_bytes (block_of a b)))
  archive_by_blocks =
      let n : length a ≡ (blocks a + 1) * 512 = test-blocks a tested in
      let e : image_header (parse_header (take 512 a)) (table_at 8 (take 512 a) 32) ≡ take 512 a = header-laws.accepted_is_image (take 512 a) (bytes_take 512 a bytes) (test_parts a tested).1 in
      let f : joined (blocks a) (λ (b : ℕ). image_entries (b + 1) (record_bytes (block_of a b))) ≡ take (blocks a * 512) (drop 512 a) = joined_is (blocks a) 512 512 a _ block_is in
      let g : take (blocks a * 512) (drop 512 a) ≡ drop 512 a = take_all (blocks a * 512) (drop 512 a) (rw length-drop (omega arith)) in
      sym (ap (λ (l : List ℕ). l ++ joined (blocks a) (λ (b : ℕ). image_entries (b + 1) (record_bytes (block_of a b)))) e ∙ ap (λ (l : List ℕ). take 512 a ++ l) (f ∙ g) ∙ take-append-drop 512 a)

  -- ---- the same by its records
  counted : 1 ≤ blocks a → records a ≡ (blocks a - 1) * 15 + count_of (block_of a (blocks a - 1))
  unfolding records
  counted h = let z : blocks a ≡ 0 → ⊥ = λ (e : blocks a ≡ 0). omega arith in rw (ne_eqb (blocks a) 0 z)

  uncounted : blocks a ≡ 0 → records a ≡ 0
  unfolding records
  uncounted h = rw (eq-eqb (blocks a) 0 h)

  -- the number of blocks by that of records
  pub blocks-are : (records a + 14) / 15 ≡ blocks a
  blocks-are = go (eqb (blocks a) 0) refl
    where
      go : (t : Bool) → eqb (blocks a) 0 ≡ t → (records a + 14) / 15 ≡ blocks a
      go true e = let z : blocks a ≡ 0 = eqb-true _ _ e in omega (arith, uncounted z)
      go false e =
          let z : blocks a ≡ 0 → ⊥ = eqb-false _ _ e in
          let p : 1 ≤ blocks a = omega arith in
          let c = well_made-count (block_of a (blocks a - 1)) (block_parts a tested (blocks a - 1) (omega arith)).0 in
          omega (arith, counted p)

  -- the number of records of a block by that of the archive
  pub count_is : (b : ℕ) → b < blocks a → min 15 (records a - b * 15) ≡ count_of (block_of a b)
  count_is b h = go (eqb (b + 1) (blocks a)) refl
    where
      go : (t : Bool) → eqb (b + 1) (blocks a) ≡ t → min 15 (records a - b * 15) ≡ count_of (block_of a b)
      go true e =
          let z : b + 1 ≡ blocks a = eqb-true _ _ e in
          let y : blocks a - 1 ≡ b = omega arith in
          let r : records a ≡ b * 15 + count_of (block_of a b) = rw y at (counted (omega arith)) in
          let c = well_made-count (block_of a b) (block_parts a tested b h).0 in
          omega arith
      go false e =
          let z : b + 1 ≡ blocks a → ⊥ = eqb-false _ _ e in
          let c = well_made-count (block_of a (blocks a - 1)) (block_parts a tested (blocks a - 1) (omega arith)).0 in
          omega (arith, counted (omega arith), full a tested b h z)

  -- the records' bytes of a block are those of its records
  pub block_records_lem : (b : ℕ) → b < blocks a → records_of_block (records a) (record_at a) b ≡ record_bytes (block_of a b)
  unfolding records_of_block record_bytes record_of
  block_records_lem b h =
      let l = block_of a b in
      let c = well_made-count l (block_parts a tested b h).0 in
      let e : min 15 (records a - b * 15) ≡ count_of l = count_is b h in
      rw e (joined_is (count_of l) 32 16 l _ (λ (k : ℕ) (d : k < count_of l).
      let i : (b * 15 + k) / 15 ≡ b = omega arith in
      let j : (b * 15 + k) % 15 ≡ k = omega arith in
      let s : 16 + k * 32 ≡ record_start k = omega arith in
      rw s (rw (i, j) at (record_place a tested (b * 15 + k) (omega arith)))))

  -- it is the image of its header fields, its limits and its records
  pub archive_is_image : image_archive (parse_header (take 512 a)) (table_at 8 (take 512 a) 32) (records a) (record_at a) ≡ a
  unfolding image_archive
  archive_is_image =
      rw blocks-are
      (ap (λ (l : List ℕ). image_header (parse_header (take 512 a)) (table_at 8 (take 512 a) 32) ++ l)
      (joined_same (blocks a) _ _ (λ (b : ℕ) (h : b < blocks a). ap (image_entries (b + 1)) (block_records_lem b h)))
      ∙ sym archive_by_blocks)

-- two archives with the same header fields, limits and records are one
pub archive_one : (a b : List ℕ) → AreBytes a → AreBytes b → archive_test a ≡ true → archive_test b ≡ true
    → parse_header (take 512 a) ≡ parse_header (take 512 b) → table_at 8 (take 512 a) 32 ≡ table_at 8 (take 512 b) 32
    → records a ≡ records b → ((k : ℕ) → k < records a → record_at a k ≡ record_at b k) → a ≡ b
archive_one a b x y s t h m n r =
    let e = image_same (parse_header (take 512 a)) (table_at 8 (take 512 a) 32) (records a) (record_at a) (record_at b) r in
    let f = archive_is_image b y t in
    sym (archive_is_image a x s) ∙ e ∙ (rw (← h, ← m, ← n) at f)
