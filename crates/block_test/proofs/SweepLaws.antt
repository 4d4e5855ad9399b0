-- The records of a block tested together are the records tested one by one. Assumes nothing.
use Prim.Native.Nat.{ℕ, zero, suc, min, ◌+◌, ◌*◌, ◌-◌, ◌%◌, ◌≤◌, ◌<◌}
use mathlib.Core.Path.{◌≡◌, refl, ◌∙◌, sym, ap}
use mathlib.Core.List.{List, [], ◌∷◌}
use mathlib.Core.Bool.{Bool, true, false, ◌&&◌, ◌||◌, cond, and-false}
use native.Mathlib.Omega.{arith}
use native.Mathlib.Decide.{dec_lt}
use lib.Dec.{eqb, leb, ltb}
use lib.Bits.{bit_or, or_add_and, and_le_l, and_le_r}
use lib.ListN.{length, get_or, take, drop, length-take, length-drop}
use lib.Seq.{get_or-take, get_or-drop}
use borrow.Author.Tests.{eq-eqb, eqb-true, ltb-true, lt-ltb, leb-true, le-leb}
use Rattle.codec.specs.Num.{AreBytes, num_at, nums_at}
use Rattle.codec.specs.Every.{every, total}
use Rattle.codec.proofs.NumLaws.{nums_get}
use Rattle.codec.proofs.EveryLaws.{bool_iff, both, join, every_none, every_at, every_of, every_same, or_zero}
use Rattle.codec.proofs.FlagLaws.{every_turn, every_both}
use Rattle.codec.proofs.Fronts.{bytes_take, bytes_drop}
use Rattle.clock.specs.Range.{ceiling_of, counts_fit}
use Rattle.header.specs.declared.Header.{Header}
use Rattle.record.specs.Record.{peer_fits, record_fits, parse_record, well_made_record}
use Rattle.record.proofs.Laws.{well_made_parts}
use Rattle.entries.specs.Starts.{record_start}
use Rattle.checksum.specs.Check.{sealed}
use Rattle.entries.specs.Entries.{count_of, stored_number, record_of, fields_fit, front_fits, tail_fits, body_fits, well_made_entries}
use Rattle.entries.proofs.Laws.{front_parts}
use Rattle.front_table.specs.Fronts.{Fronts, place_of}
use Rattle.block_test.specs.BlockTest.{peer_known, record_known, all_known, block_fits}
use Rattle.block_test.specs.Sweep.{count_at, counts_test, front_test, spare_test, phase_test, record_test, Looked, sound_test}
use Rattle.block_test.proofs.FrontLaws.{front_back, front_right}

-- ---- tests
-- a test of every pair, by the one or by the other
every-swap : (n k : ℕ) (p : ℕ → ℕ → Bool) → every n (λ (i : ℕ). every k (p i)) ≡ every k (λ (j : ℕ). every n (λ (i : ℕ). p i j))
unfolding every
every-swap zero k p = sym (every_of k (λ (j : ℕ). true) (λ (j : ℕ) (h : j < k). refl))
every-swap (suc n) k p =
    rw (every-swap n k p) (sym (every_both (λ (j : ℕ). every n (λ (i : ℕ). p i j) && p n j) (λ (j : ℕ). every n (λ (i : ℕ). p i j)) (p n) (λ (j : ℕ). refl) k))

-- more numbers, each of which passes
every-further : (n k : ℕ) (p : ℕ → Bool) → n ≤ k → ((i : ℕ) → n ≤ i → i < k → p i ≡ true) → every k p ≡ every n p
every-further n k p l h =
    bool_iff (every k p) (every n p) (λ (e : every k p ≡ true). every_of n p (λ (i : ℕ) (b : i < n). every_at k p i e (omega arith)))
    (λ (e : every n p ≡ true). every_of k p (λ (i : ℕ) (b : i < k). go i b e (dec_lt i n)))
  where
    go : (i : ℕ) → i < k → every n p ≡ true → Dec (i < n) → p i ≡ true
    go i b e (yes a) = every_at n p i e a
    go i b e (no a) = h i (omega arith) b

-- the tests of a block in the order of the sweep
and_true : (a : Bool) → (a && true) ≡ a
and_true true = refl
and_true false = refl

and_comm : (a b : Bool) → (a && b) ≡ (b && a)
and_comm true b = sym (and_true b)
and_comm false b = sym (and-false b)

gather : (w z a b k c f : Bool) → (z ≡ true → (w && k) ≡ (f && c)) → (w && z && (a && (b && k))) ≡ (a && (b && (z && (c && f))))
gather w false a b k c f h = rw (and-false w, and-false b, and-false a)
gather w true false b k c f h = rw (and-false (w && true))
gather w true true false k c f h = rw (and-false (w && true))
gather w true true true k c f h = rw (and_true w) (h refl ∙ and_comm f c)

-- nothing is left of a number once another is taken away if it is at most that
pub sub_leb : (x m : ℕ) → eqb (x - m) 0 ≡ leb x m
sub_leb x m =
    bool_iff _ _ (λ (e : eqb (x - m) 0 ≡ true). let z : x - m ≡ 0 = eqb-true _ _ e in le-leb x m (omega arith))
    (λ (e : leb x m ≡ true). let l : x ≤ m = leb-true x m e in eq-eqb _ 0 (omega arith))

-- ---- parts of a block
zero_at_lem : (l : List ℕ) (i : ℕ) → total l ≡ 0 → get_or l i 0 ≡ 0
unfolding total
zero_at_lem [] i h = refl
zero_at_lem (x ∷ l) zero h = omega arith
zero_at_lem (x ∷ l) (suc i) h = zero_at_lem l i (omega arith)

-- ---- one record
place_small : (x : ℕ) → place_of x < 256
unfolding place_of
place_small x = omega arith

-- a station with a count is the network's
known_station : (v : List ℕ) (n t s : ℕ) → s < 8 → counts_fit n t v ≡ true → leb 1 (get_or v s 0) ≡ true → ltb s n ≡ true
unfolding counts_fit
known_station v n t s b f o = go (ltb s n) refl (every_at 8 (λ (k : ℕ). leb (get_or v k 0) (ceiling_of n t k)) s f b)
  where
    go : (u : Bool) → ltb s n ≡ u → leb (get_or v s 0) (cond u t 0) ≡ true → ltb s n ≡ true
    go true e h = e
    go false e h =
        let x : get_or v s 0 ≤ 0 = leb-true _ _ h in
        let y : 1 ≤ get_or v s 0 = leb-true _ _ o in
        absurd (omega arith)

module _ (h : Header) (m : List (List ℕ)) (f l : List ℕ) (small : h.n ≤ 8) (known : Fronts h.n m f) (sized : length l ≡ 32) (bytes : AreBytes l) where
  own_at : get_or l 1 0 < 8 → get_or (nums_at 2 8 l 16) (get_or l 1 0) 0 ≡ num_at 2 l (16 + 2 * get_or l 1 0)
  own_at b = nums_get 2 8 l 16 (get_or l 1 0) b ∙ ap (λ (x : ℕ). num_at 2 l (16 + x)) (omega arith)

  forth : (well_made_record l && record_known h m (parse_record l)) ≡ true → (record_test f l && counts_fit h.n h.t (nums_at 2 8 l 16)) ≡ true
  unfolding record_fits record_known record_test front_test
  forth e =
      let p = both (well_made_record l) _ e in
      let w = well_made_parts l p.0 in
      let a = both (ltb (get_or l 1 0) 8) _ w.3 in
      let b = both (peer_fits (get_or l 0 0) (get_or l 1 0) (get_or l 2 0)) _ a.1 in
      let c = both (leb (num_at 4 l 4) 999999) _ b.1 in
      let d = both (ltb (get_or l 1 0) h.n) _ p.1 in
      let g = both (peer_known h.n m (parse_record l)) _ d.1 in
      let x = front_right h.n m small (parse_record l) (num_at 4 l 0) (omega (arith, w.1)) (ltb-true _ _ a.0, b.0, g.0) in
      let y : get_or f (place_of (num_at 4 l 0)) 0 ≡ num_at 4 l 0 = known (place_of (num_at 4 l 0)) (place_small (num_at 4 l 0)) ∙ x.0 in
      let z = rw (own_at (ltb-true _ _ a.0), ← x.1) at c.1 in
      join _ _ (join _ _ (join _ _ (join _ _ (eq-eqb _ _ y) z) (eq-eqb _ _ w.2)) c.0) g.1

  back : (record_test f l && counts_fit h.n h.t (nums_at 2 8 l 16)) ≡ true → (well_made_record l && record_known h m (parse_record l)) ≡ true
  unfolding well_made_record record_fits record_known record_test front_test
  back e =
      let p = both (record_test f l) _ e in
      let q = both (front_test f l && spare_test l) _ p.0 in
      let b = both (front_test f l) _ q.0 in
      let a = both (eqb (get_or f (place_of (num_at 4 l 0)) 0) (num_at 4 l 0)) _ b.0 in
      let x = front_back h.n m small (parse_record l) (get_or l 3 0) (num_at 4 l 0) (bytes 0) (bytes 1) (bytes 2) (bytes 3) refl (sym (known (place_of (num_at 4 l 0)) (place_small (num_at 4 l 0))) ∙ eqb-true _ _ a.0) in
      let s : get_or l 1 0 < 8 = x.2.0 in
      let z = rw (x.1, ← own_at s) at a.1 in
      join _ _ (join _ _ (eq-eqb _ _ sized) (join _ _ (eq-eqb _ _ x.0) (join _ _ b.1 (join _ _ (lt-ltb _ _ s) (join _ _ x.2.1 (join _ _ q.1 z))))))
      (join _ _ (known_station (nums_at 2 8 l 16) h.n h.t (get_or l 1 0) s p.1 z) (join _ _ x.2.2 p.1))

  pub record_law : (well_made_record l && record_known h m (parse_record l)) ≡ (record_test f l && counts_fit h.n h.t (nums_at 2 8 l 16))
  record_law = bool_iff _ _ forth back

-- ---- the places of a block
module _ (l : List ℕ) where
  part_at : (k i : ℕ) → i < 32 → get_or (record_of l k) i 0 ≡ get_or l (record_start k + i) 0
  unfolding record_of
  part_at k i b = get_or-take 32 (drop (record_start k) l) i 0 b ∙ get_or-drop (record_start k) l i 0

  count_part : (k i : ℕ) → i < 8 → num_at 2 (record_of l k) (16 + i * 2) ≡ count_at l i k
  count_part k i b =
      let e : record_start k + (16 + i * 2) ≡ 32 + k * 32 + 2 * i = omega arith in
      let f : record_start k + (16 + i * 2 + 1) ≡ 32 + k * 32 + 2 * i + 1 = omega arith in
      rw (part_at k (16 + i * 2) (omega arith), part_at k (16 + i * 2 + 1) (omega arith), e, f)

  counts_part : (n t k : ℕ) → counts_fit n t (nums_at 2 8 (record_of l k) 16) ≡ every 8 (λ (i : ℕ). leb (count_at l i k) (ceiling_of n t i))
  unfolding counts_fit
  counts_part n t k =
      every_same 8 _ _ (λ (i : ℕ) (b : i < 8). ap (λ (x : ℕ). leb x (ceiling_of n t i)) (nums_get 2 8 (record_of l k) 16 i b ∙ count_part k i b))

  counts_all : (n t : ℕ) → counts_test n t l ≡ every 15 (λ (k : ℕ). counts_fit n t (nums_at 2 8 (record_of l k) 16))
  unfolding counts_test
  counts_all n t = every-swap 8 15 (λ (i k : ℕ). leb (count_at l i k) (ceiling_of n t i)) ∙ every_same 15 _ _ (λ (k : ℕ) (b : k < 15). sym (counts_part n t k))

  module _ (count : ℕ) (high : count ≤ 15) (tail : tail_fits l count ≡ true) where
    tail-zero : (q : ℕ) → record_start count ≤ q → q < 510 → get_or l q 0 ≡ 0
    tail-zero q a b =
        let e : ℕ = record_start count in
        let y = zero_at_lem (take (510 - e) (drop e l)) (q - e) (eqb-true _ 0 tail) in
        let g : e + (q - e) ≡ q = omega arith in
        rw (get_or-take (510 - e) (drop e l) (q - e) 0 (omega arith), get_or-drop e l (q - e) 0, g) at y

    -- a place with no record has counts that fit
    counts-further : (n t : ℕ) → counts_test n t l ≡ every count (λ (k : ℕ). counts_fit n t (nums_at 2 8 (record_of l k) 16))
    counts-further n t =
        counts_all n t ∙ every-further count 15 _ high
        (λ (k : ℕ) (a : count ≤ k) (b : k < 15). counts_part n t k ∙ every_of 8 _ (λ (i : ℕ) (c : i < 8).
        rw (tail-zero (32 + k * 32 + 2 * i) (omega arith) (omega arith), tail-zero (32 + k * 32 + 2 * i + 1) (omega arith) (omega arith)) (le-leb 0 (ceiling_of n t i) (omega arith))))

-- the records by first bytes, spare bytes and phases
records_split : (f l : List ℕ) (count : ℕ)
    → every count (λ (k : ℕ). record_test f (record_of l k))
    ≡ (every count (λ (k : ℕ). front_test f (record_of l k)) && every count (λ (k : ℕ). spare_test (record_of l k)) && every count (λ (k : ℕ). phase_test (record_of l k)))
unfolding record_test
records_split f l count =
    let a : ℕ → Bool = λ (k : ℕ). front_test f (record_of l k) in
    let b : ℕ → Bool = λ (k : ℕ). spare_test (record_of l k) in
    let c : ℕ → Bool = λ (k : ℕ). phase_test (record_of l k) in
    every_both (λ (k : ℕ). a k && b k && c k) (λ (k : ℕ). a k && b k) c (λ (k : ℕ). refl) count
    ∙ ap (λ (t : Bool). t && every count c) (every_both (λ (k : ℕ). a k && b k) a b (λ (k : ℕ). refl) count)

-- ---- the records as they are looked at
-- the first bytes of one record more
front_more : (f l : List ℕ) (wrong least d own : ℕ) → eqb d 0 ≡ eqb (get_or f (place_of (num_at 4 l 0)) 0) (num_at 4 l 0) → own ≡ num_at 2 l (16 + 2 * (place_of (num_at 4 l 0) % 8))
    → (eqb (bit_or wrong d) 0 && leb 1 (min own least)) ≡ (eqb wrong 0 && leb 1 least && front_test f l)
unfolding front_test
front_more f l wrong least d own e o = rw (or_zero wrong d, at_least own least, e, o) (turn (eqb wrong 0) _ _ (leb 1 least))
  where
    at_least : (a b : ℕ) → leb 1 (min a b) ≡ (leb 1 a && leb 1 b)
    at_least a b =
        bool_iff _ _ (λ (e : leb 1 (min a b) ≡ true). let h : 1 ≤ min a b = leb-true _ _ e in join _ _ (le-leb 1 a (omega arith)) (le-leb 1 b (omega arith)))
        (λ (e : (leb 1 a && leb 1 b) ≡ true).
        let q = both (leb 1 a) _ e in
        let x : 1 ≤ a = leb-true _ _ q.0 in
        let y : 1 ≤ b = leb-true _ _ q.1 in
        le-leb 1 (min a b) (omega arith))

    turn : (a p q b : Bool) → (a && p && (q && b)) ≡ (a && b && (p && q))
    turn false p q b = refl
    turn true false q b = sym (and-false b)
    turn true true q b = and_comm q b

-- one record more
pub looked_more : (f l : List ℕ) (k wrong least spare phases d own : ℕ) → Looked f l k wrong least spare phases
    → eqb d 0 ≡ eqb (get_or f (place_of (num_at 4 (record_of l k) 0)) 0) (num_at 4 (record_of l k) 0)
    → own ≡ num_at 2 (record_of l k) (16 + 2 * (place_of (num_at 4 (record_of l k) 0) % 8))
    → Looked f l (k + 1) (bit_or wrong d) (min own least) (bit_or spare (num_at 4 (record_of l k) 12)) (bit_or phases (num_at 4 (record_of l k) 4))
looked_more f l k wrong least spare phases d own h e o = (
  rw (every_turn, front_more f (record_of l k) wrong least d own e o, h.0),
  rw (every_turn, or_zero spare (num_at 4 (record_of l k) 12), h.1),
  λ (i : ℕ) (b : i < k + 1). most i b (dec_lt i k),
)
  where
    most : (i : ℕ) → i < k + 1 → Dec (i < k) → num_at 4 (record_of l i) 4 ≤ bit_or phases (num_at 4 (record_of l k) 4)
    most i b (yes a) = omega (arith, h.2 i a, or_add_and phases (num_at 4 (record_of l k) 4), and_le_r phases (num_at 4 (record_of l k) 4))
    most i b (no a) = let e : i ≡ k = omega arith in rw e (omega (arith, or_add_and phases (num_at 4 (record_of l k) 4), and_le_l phases (num_at 4 (record_of l k) 4)))

-- no record
pub looked_none : (f l : List ℕ) → Looked f l 0 0 1 0 0
looked_none f l = (sym (every_none _), sym (every_none _), λ (i : ℕ) (b : i < 0). absurd (omega arith))

-- the records by what is seen of them, and their phases one by one
pub looked_each : (f l : List ℕ) (count wrong least spare phases : ℕ) → Looked f l count wrong least spare phases
    → (t : Bool) → t ≡ every count (λ (k : ℕ). phase_test (record_of l k)) → (eqb wrong 0 && leb 1 least && eqb spare 0 && t) ≡ every count (λ (k : ℕ). record_test f (record_of l k))
looked_each f l count wrong least spare phases h t e = rw (records_split f l count, h.0, h.1, e)

-- joined phases that are low enough
pub looked-low : (f l : List ℕ) (count wrong least spare phases : ℕ) → Looked f l count wrong least spare phases → phases ≤ 999999
    → (eqb wrong 0 && leb 1 least && eqb spare 0) ≡ every count (λ (k : ℕ). record_test f (record_of l k))
looked-low f l count wrong least spare phases h g =
    let low : every count (λ (k : ℕ). phase_test (record_of l k)) ≡ true =
    every_of count (λ (k : ℕ). phase_test (record_of l k)) (λ (k : ℕ) (b : k < count). le-leb (num_at 4 (record_of l k) 4) 999999 (omega (arith, h.2 k b))) in
    sym (and_true (eqb wrong 0 && leb 1 least && eqb spare 0)) ∙ looked_each f l count wrong least spare phases h true (sym low)

-- ---- a block
front-refused : (h : Header) (m : List (List ℕ)) (l : List ℕ) (number : ℕ) (last : Bool) → front_fits l ≡ false → block_fits h m number last l ≡ false
unfolding block_fits well_made_entries
front-refused h m l number last e = rw (e, and-false (eqb (length l) 512))

module _ (l : List ℕ) (sized : length l ≡ 512) (bytes : AreBytes l) where
  part_sized : (k : ℕ) → k < 15 → length (record_of l k) ≡ 32
  unfolding record_of
  part_sized k h = simp (length-take, length-drop) (omega arith)

  part_bytes : (k : ℕ) → AreBytes (record_of l k)
  unfolding record_of
  part_bytes k = bytes_take 32 (drop (record_start k) l) (bytes_drop (record_start k) l bytes)

  module _ (h : Header) (m : List (List ℕ)) (f : List ℕ) (small : h.n ≤ 8) (known : Fronts h.n m f) where
    records_law : (count : ℕ) → count ≤ 15 → tail_fits l count ≡ true
        → (every count (λ (k : ℕ). well_made_record (record_of l k)) && every count (λ (k : ℕ). record_known h m (parse_record (record_of l k))))
        ≡ (every count (λ (k : ℕ). record_test f (record_of l k)) && counts_test h.n h.t l)
    records_law count b z =
        let w : ℕ → Bool = λ (k : ℕ). well_made_record (record_of l k) in
        let v : ℕ → Bool = λ (k : ℕ). record_known h m (parse_record (record_of l k)) in
        let t : ℕ → Bool = λ (k : ℕ). record_test f (record_of l k) in
        let c : ℕ → Bool = λ (k : ℕ). counts_fit h.n h.t (nums_at 2 8 (record_of l k) 16) in
        rw (counts-further l count b z h.n h.t)
        (sym (every_both (λ (k : ℕ). w k && v k) w v (λ (k : ℕ). refl) count)
        ∙ every_same count (λ (k : ℕ). w k && v k) (λ (k : ℕ). t k && c k) (λ (k : ℕ) (e : k < count). record_law h m f (record_of l k) small known (part_sized k (omega arith)) (part_bytes k))
        ∙ every_both (λ (k : ℕ). t k && c k) t c (λ (k : ℕ). refl) count)

    block_law : (number : ℕ) (last : Bool) → front_fits l ≡ true → block_fits h m number last l
        ≡ (eqb (stored_number l) number && ((last || eqb (count_of l) 15) && (tail_fits l (count_of l) && (counts_test h.n h.t l && every (count_of l) (λ (k : ℕ). record_test f (record_of l k))))))
    unfolding block_fits well_made_entries body_fits all_known
    block_law number last front =
        let p = front_parts l front in
        rw (eq-eqb (length l) 512 sized, front)
        (gather (every (count_of l) (λ (k : ℕ). well_made_record (record_of l k))) (tail_fits l (count_of l)) (eqb (stored_number l) number) (last || eqb (count_of l) 15) (every (count_of l) (λ (k : ℕ). record_known h m (parse_record (record_of l k)))) (counts_test h.n h.t l) (every (count_of l) (λ (k : ℕ). record_test f (record_of l k))) (λ (z : tail_fits l (count_of l) ≡ true). records_law (count_of l) p.3 z))

    shuffle : (z c f : Bool) → (z && (c && f)) ≡ (f && (z && true) && c)
    shuffle false c f = rw (and-false f)
    shuffle true c f = rw (and_true f) (and_comm c f)

    -- the tests of a block with right fields, in the order of the code
    pub sound_law : (number : ℕ) (last : Bool) → fields_fit l ≡ true → block_fits h m number last l
        ≡ (eqb (stored_number l) number && ((last || eqb (count_of l) 15) && (sound_test f l (count_of l) && counts_test h.n h.t l)))
    unfolding front_fits sound_test
    sound_law number last fields = go (sealed l) refl
      where
        records : Bool
        records = every (count_of l) (λ (k : ℕ). record_test f (record_of l k))

        go : (s : Bool) → sealed l ≡ s → block_fits h m number last l
            ≡ (eqb (stored_number l) number && ((last || eqb (count_of l) 15) && (records && (tail_fits l (count_of l) && s) && counts_test h.n h.t l)))
        go true e =
            block_law number last (join (sealed l) (fields_fit l) e fields)
            ∙ ap (λ (t : Bool). eqb (stored_number l) number && ((last || eqb (count_of l) 15) && t)) (shuffle (tail_fits l (count_of l)) (counts_test h.n h.t l) records)
        go false e =
            rw (and-false (tail_fits l (count_of l)), and-false records, and-false (last || eqb (count_of l) 15), and-false (eqb (stored_number l) number))
            (front-refused h m l number last (rw e))

pub block_refused : (h : Header) (m : List (List ℕ)) (l : List ℕ) (number : ℕ) (last : Bool) → fields_fit l ≡ false → block_fits h m number last l ≡ false
unfolding front_fits
block_refused h m l number last e = front-refused h m l number last (ap (λ (t : Bool). sealed l && t) e ∙ and-false (sealed l))
