-- Laws of splices. Assumes nothing.
use Prim.Native.Nat.{ℕ, zero, suc, ◌+◌, ◌-◌, ◌≤◌, ◌<◌}
use mathlib.Core.Path.{◌≡◌, refl, ◌∙◌}
use mathlib.Core.List.{List, [], ◌∷◌, ◌++◌, append_assoc, append-nil}
use native.Mathlib.Omega.{arith}
use native.Mathlib.Numerals.{add-one}
use native.Mathlib.Nat.{add_assoc, add-zero, sub-zero, zero-sub, suc-sub-suc}
use lib.ListN.{length, take, drop, set, length-append, length-take, length-drop, take-append-drop, drop_of_length-le}
use lib.Seq.{set_split, take_at, drop-drop, drop-append-add, take-take, take-nil}
use Rattle.codec.specs.Splice.{splice}

-- what lies past the seam
pub drop_past : (p q : List ℕ) (n m : ℕ) → length p ≡ n → drop (n + m) (p ++ q) ≡ drop m q
drop_past p q n m e = rw (← e) (drop-append-add p q m)

pub splice_none : (l : List ℕ) (i : ℕ) → splice l i [] ≡ l
splice_none l i = rw (add-zero, take-append-drop)

-- a splice of a whole list
pub splice_all : (l vs : List ℕ) → length vs ≡ length l → splice l 0 vs ≡ vs
splice_all l vs e =
    let d : drop (0 + length vs) l ≡ [] = drop_of_length-le l {i = 0 + length vs} (omega arith) in
    rw (d, append-nil)

module _ (l : List ℕ) (i : ℕ) (vs : List ℕ) (fits : i + length vs ≤ length l) where
  pub splice-length : length (splice l i vs) ≡ length l
  splice-length = simp (length-append, length-take, length-drop) (omega arith)

  -- a splice right after a splice
  pub splice_more : (n : ℕ) (ws : List ℕ) → i + length vs ≡ n → splice (splice l i vs) n ws ≡ splice l i (vs ++ ws)
  splice_more n ws e =
      let p : List ℕ = take i l ++ vs in
      let h : length p ≡ n = simp (length-append, length-take) (omega arith) in
      rw (
        ← append_assoc (take i l) vs (drop (i + length vs) l),
        take_at p (drop (i + length vs) l) n h,
        drop_past p (drop (i + length vs) l) n (length ws) h,
        drop-drop,
        length-append,
        ← add_assoc,
      )
      (simp append_assoc)

-- d is l with vs, of length n, written from its start
pub record Wrote (l vs : List ℕ) (n : ℕ) (d : List ℕ) : Type 0 where
  pub size : length vs ≡ n
  pub is : d ≡ splice l 0 vs

pub first : (l vs d : List ℕ) (n : ℕ) → length vs ≡ n → d ≡ splice l 0 vs → Wrote l vs n d
first l vs d n s e = record { size = s; is = e }

-- one more piece, right behind
pub next : {l vs d : List ℕ} {n : ℕ} (ws d' : List ℕ) (m : ℕ) → Wrote l vs n d → n ≤ length l → length ws ≡ m → d' ≡ splice d n ws → Wrote l (vs ++ ws) (n + m) d'
next {l} {vs} {d} {n} ws d' m w f s e =
    let z : length vs ≡ n = w.size in
    record {
      size = simp length-append (omega arith);
      is = e ∙ rw w.is (splice_more l 0 vs (omega arith) n ws (omega arith));
    }

-- one more byte
pub next_byte : {l vs d : List ℕ} {n : ℕ} (b : ℕ) → Wrote l vs n d → n < length l → Wrote l (vs ++ (b ∷ [])) (n + 1) (set d n b)
next_byte {l} {vs} {d} {n} b w f =
    let z : length vs ≡ n = w.size in
    let y : length d ≡ length l = rw w.is (splice-length l 0 vs (omega arith)) in
    next (b ∷ []) (set d n b) 1 w (omega arith) refl (rw (set_split d n b (omega arith), add-one))

-- the whole is written
pub written : {l vs d : List ℕ} {n : ℕ} → Wrote l vs n d → length l ≡ n → d ≡ vs
written {l} {vs} {d} {n} w e = let z : length vs ≡ n = w.size in w.is ∙ splice_all l vs (omega arith)

-- a lent part that is back as vs
pub lent : (l ys vs : List ℕ) (o e : ℕ) → ys ≡ vs → e - o ≡ length vs → take o l ++ (ys ++ drop (e - o) (drop o l)) ≡ splice l o vs
lent l ys vs o e q h = rw (q, drop-drop, h)

-- the front of what lies past a place, cut off further on
pub drop-take : (k m : ℕ) (l : List ℕ) → drop k (take m l) ≡ take (m - k) (drop k l)
drop-take zero m l = rw sub-zero
drop-take (suc k) zero l = rw (zero-sub)
drop-take (suc k) (suc m) [] = rw take-nil
drop-take (suc k) (suc m) (x ∷ l) = rw suc-sub-suc (drop-take k m l)

-- a part of a part
pub part_part : (l : List ℕ) (w k m n : ℕ) → k + w ≤ m → take w (drop k (take m (drop n l))) ≡ take w (drop (n + k) l)
part_part l w k m n h =
    let e : w ≤ m - k = omega arith in
    rw (drop-take, take-take w (m - k) (drop k (drop n l)), drop-drop)
