-- A record's bytes: what is written is read back, and what is accepted is what the writer makes. Assumes nothing.
use Prim.Native.Nat.{ℕ, ◌*◌, ◌/◌, ◌<◌}
use mathlib.Core.Path.{◌≡◌, refl, ◌∙◌, sym}
use mathlib.Core.List.{List, [], ◌∷◌, ◌++◌}
use mathlib.Core.Bool.{Bool, true, false, not, cond, ◌&&◌, ◌||◌, and-true, and-false, or-false}
use native.Mathlib.Omega.{arith}
use lib.ListN.{length, get_or, length-append}
use lib.Dec.{eqb, leb, ltb}
use lib.Bits.{bit_or}
use native.Mathlib.Decide.{ℕ_discrete, dec_lt}
use borrow.Author.Tests.{eqb-true, eq-eqb, ne_eqb, ltb-true, lt-ltb, le-ltb}
use Rattle.codec.specs.Num.{AreBytes, bytes_of, num_at, nums_at, nums_of}
use Rattle.codec.proofs.NumLaws.{Below}
use Rattle.codec.proofs.EveryLaws.{both, join, or_zero}
use Rattle.codec.proofs.Has.{has_last, has_more, has_num, has_nums, num_below, nums_below}
use Rattle.codec.proofs.Fronts.{front_nums, front_num, front_byte, front_none, front_all}
use Rattle.record.specs.Record.{image_record, parse_record, peer_fits, record_fits, well_made_record}
use Rattle.record.specs.declared.Record.{Record}

pub image-length : (r : Record) → length (image_record r) ≡ 32
unfolding image_record
image-length r = simp length-append

-- the test, part by part
pub well_made_parts : (l : List ℕ) → well_made_record l ≡ true → (length l ≡ 32) × (get_or l 3 0 ≡ 0) × (num_at 4 l 12 ≡ 0) × (record_fits (parse_record l) ≡ true)
unfolding well_made_record
well_made_parts l h =
    let a = both (eqb (length l) 32) _ h in
    let b = both (eqb (get_or l 3 0) 0) _ a.1 in
    let d = both (eqb (num_at 4 l 12) 0) _ b.1 in
    (eqb-true _ _ a.0, eqb-true _ _ b.0, eqb-true _ _ d.0, d.1)

-- each accepted record is the one that the writer makes from what it holds
pub accepted_is_image : (l : List ℕ) → AreBytes l → well_made_record l ≡ true → image_record (parse_record l) ≡ l
unfolding image_record
accepted_is_image l b h =
    let p = well_made_parts l h in
    let n : length l ≡ 32 = p.0 in
    let f1 = front_byte l b 0 [] (front_none l b) (omega arith) in
    let f2 = front_byte l b 1 _ f1 (omega arith) in
    let f3 = front_byte l b 2 _ f2 (omega arith) in
    let f4 = front_byte l b 3 _ f3 (omega arith) in
    let f5 = front_num l b 4 4 _ f4 (omega arith) in
    let f6 = front_num l b 4 8 _ f5 (omega arith) in
    let f7 = front_num l b 4 12 _ f6 (omega arith) in
    let f8 = front_nums l b 2 8 16 _ f7 (omega arith) in
    let e = front_all l b 32 _ f8 n in
    rw (p.1, p.2) at e

-- what the struct's types say of a record
pub record Typed (r : Record) : Type 0 where
  pub kind : r.kind < 256
  pub station : r.station < 256
  pub peer : r.peer < 256
  pub phase : r.phase < 4294967296
  pub register : r.register < 4294967296
  pub eight : length r.counts ≡ 8
  pub counts : Below 65536 r.counts

pub parsed_typed : (l : List ℕ) → AreBytes l → Typed (parse_record l)
parsed_typed l b =
    record {
      kind = b 0;
      station = b 1;
      peer = b 2;
      phase = num_below 4 l 4 b;
      register = num_below 4 l 8 b;
      eight = refl;
      counts = nums_below 2 8 l 16 b;
    }

-- what is written is read back, whatever the fields
pub parse_image : (r : Record) → Typed r → parse_record (image_record r) ≡ r
unfolding image_record
parse_image r y =
    let front : List ℕ = r.kind ∷ r.station ∷ r.peer ∷ 0 ∷ [] in
    let a : List ℕ = front ++ bytes_of 4 r.phase in
    let d : List ℕ = a ++ bytes_of 4 r.register in
    let e : List ℕ = d ++ bytes_of 4 0 in
    let w1 = has_num 4 r.phase (has_more (nums_of 2 8 r.counts) (has_more (bytes_of 4 0) (has_more (bytes_of 4 r.register) (has_last front (bytes_of 4 r.phase) 4 refl)))) y.phase in
    let w2 = has_num 4 r.register (has_more (nums_of 2 8 r.counts) (has_more (bytes_of 4 0) (has_last a (bytes_of 4 r.register) 8 refl))) y.register in
    let w3 = has_nums 2 8 r.counts (has_last e (nums_of 2 8 r.counts) 16 refl) y.eight y.counts in
    rw (w1, w2, w3)

-- a record whose fields are in range is written as bytes that are accepted
pub image-accepted : (r : Record) → Typed r → record_fits r ≡ true → well_made_record (image_record r) ≡ true
unfolding well_made_record
image-accepted r y h =
    join _ _ (eq-eqb _ 32 (image-length r)) (rw (parse_image r y) (unfold image_record in join _ _ refl (join _ _ refl h)))

-- ---- the test as the code makes it
half_one : (k : ℕ) → eqb (k / 2) 1 ≡ (eqb k 2 || eqb k 3)
half_one k = go (ℕ_discrete k 2) (ℕ_discrete k 3)
  where
    go : Dec (k ≡ 2) → Dec (k ≡ 3) → eqb (k / 2) 1 ≡ (eqb k 2 || eqb k 3)
    go (yes e) f = rw e
    go (no e) (yes f) = rw f
    go (no e) (no f) = rw (ne_eqb k 2 e, ne_eqb k 3 f, ne_eqb (k / 2) 1 (λ (h : k / 2 ≡ 1). omega arith))

turned : (n h b e : Bool) → (n && (h && (b || false))) ≡ ((e && false) || (h && (b && n)))
turned n true true e = rw (and-false, and-true)
turned n true false e = rw (and-false, and-false)
turned n false b e = rw (and-false, and-false)

-- an own event's kind counts twice, and then all three kinds are 2 or 3
pub peer_law : (k s p : ℕ) → s < 8 → (not (eqb p s) && (eqb (cond (eqb p 255) (2 * k) k / 2) 1 && (ltb p 8 || eqb p 255))) ≡ peer_fits k s p
unfolding peer_fits
peer_law k s p h = go (ℕ_discrete p 255)
  where
    go : Dec (p ≡ 255) → (not (eqb p s) && (eqb (cond (eqb p 255) (2 * k) k / 2) 1 && (ltb p 8 || eqb p 255))) ≡ ((eqb k 1 && eqb p 255) || ((eqb k 2 || eqb k 3) && (ltb p 8 && not (eqb p s))))
    go (yes e) =
        let f : eqb 255 s ≡ false = ne_eqb 255 s (λ (q : 255 ≡ s). omega arith) in
        let g : 2 * k / 2 ≡ k = omega arith in
        rw (e, f, g) (simp (and-true, and-false, or-false))
    go (no e) = rw (ne_eqb p 255 e, half_one k) (turned (not (eqb p s)) (eqb k 2 || eqb k 3) (ltb p 8) (eqb k 1))

eighth : (x : ℕ) → eqb (x / 8) 0 ≡ ltb x 8
eighth x = go (dec_lt x 8)
  where
    go : Dec (x < 8) → eqb (x / 8) 0 ≡ ltb x 8
    go (yes l) = eq-eqb (x / 8) 0 (omega arith) ∙ sym (lt-ltb x 8 l)
    go (no n) = ne_eqb (x / 8) 0 (λ (e : x / 8 ≡ 0). absurd (n (omega arith))) ∙ sym (le-ltb x 8 (omega arith))

pub spare_law : (a b x : ℕ) → eqb (bit_or a (bit_or b (x / 8))) 0 ≡ (eqb a 0 && (eqb b 0 && ltb x 8))
spare_law a b x = rw (or_zero a (bit_or b (x / 8)), or_zero b (x / 8), eighth x)

-- a test of the spare bytes and the station that holds
pub spare_none : (l : List ℕ) (r : ℕ) → eqb r 0 ≡ (eqb (get_or l 3 0) 0 && (eqb (num_at 4 l 12) 0 && ltb (get_or l 1 0) 8)) → r ≡ 0
    → ((eqb (get_or l 3 0) 0 && (eqb (num_at 4 l 12) 0 && ltb (get_or l 1 0) 8)) ≡ true) × (get_or l 1 0 < 8)
spare_none l r e f =
    let h = sym e ∙ eq-eqb r 0 f in
    (h, ltb-true (get_or l 1 0) 8 (both (eqb (num_at 4 l 12) 0) _ (both (eqb (get_or l 3 0) 0) _ h).1).1)

regroup : (a b c d : Bool) → (a && (b && (c && d))) ≡ (a && (b && c) && d)
regroup true true c d = refl
regroup true false c d = refl
regroup false b c d = refl

-- the test of 32 bytes, the spare ones and the station first
pub spare_first : (l : List ℕ) → length l ≡ 32
    → well_made_record l ≡ (eqb (get_or l 3 0) 0 && (eqb (num_at 4 l 12) 0 && ltb (get_or l 1 0) 8)
    && (peer_fits (get_or l 0 0) (get_or l 1 0) (get_or l 2 0) && (leb (num_at 4 l 4) 999999 && leb 1 (get_or (nums_at 2 8 l 16) (get_or l 1 0) 0))))
unfolding well_made_record record_fits
spare_first l n =
    rw (eq-eqb _ 32 n)
    (regroup (eqb (get_or l 3 0) 0) (eqb (num_at 4 l 12) 0) (ltb (get_or l 1 0) 8) (peer_fits (get_or l 0 0) (get_or l 1 0) (get_or l 2 0) && (leb (num_at 4 l 4) 999999 && leb 1 (get_or (nums_at 2 8 l 16) (get_or l 1 0) 0))))
