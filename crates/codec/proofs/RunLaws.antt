-- A run of zeros read in windows, which may overlap. Assumes nothing.
use Prim.Native.Nat.{ℕ, zero, suc, ◌+◌, ◌-◌, ◌≤◌, ◌<◌}
use mathlib.Core.Path.{◌≡◌, refl, ◌∙◌, sym, ap}
use mathlib.Core.List.{List, [], ◌∷◌}
use mathlib.Core.Bool.{Bool, true, false, ◌&&◌, true≢false}
use native.Mathlib.Omega.{arith}
use native.Mathlib.Decide.{dec_lt}
use lib.ListN.{length, get_or, take, drop, take-append-drop, get_or-eq_default}
use lib.Seq.{get_or-take, get_or-drop}
use borrow.Author.Tests.{eqb-true, eq-eqb}
use Rattle.codec.specs.Every.{total, all_zero}
use Rattle.codec.proofs.EveryLaws.{both, join, total-append}

-- zeros, place by place
zero_place : (l : List ℕ) (k : ℕ) → total l ≡ 0 → get_or l k 0 ≡ 0
unfolding total
zero_place [] k h = refl
zero_place (x ∷ l) zero h = omega arith
zero_place (x ∷ l) (suc k) h = zero_place l k (omega arith)

places_zero : (l : List ℕ) → ((k : ℕ) → get_or l k 0 ≡ 0) → total l ≡ 0
unfolding total
places_zero [] h = refl
places_zero (x ∷ l) h = let z : x ≡ 0 = h 0 in omega (arith, places_zero l (λ (k : ℕ). h (suc k)))

-- of zeros every window is zeros
zero_window : (l : List ℕ) (w i : ℕ) → all_zero l ≡ true → all_zero (take w (drop i l)) ≡ true
zero_window l w i h =
    let z : total l ≡ 0 = eqb-true _ 0 h in
    let a : total (take i l) + total (drop i l) ≡ total l = sym (total-append (take i l) (drop i l)) ∙ ap total (take-append-drop i l) in
    let b : total (take w (drop i l)) + total (drop w (drop i l)) ≡ total (drop i l)
    = sym (total-append (take w (drop i l)) (drop w (drop i l))) ∙ ap total (take-append-drop w (drop i l)) in
    eq-eqb (total (take w (drop i l))) 0 (omega arith)

window_place : (l : List ℕ) (w i k : ℕ) → all_zero (take w (drop i l)) ≡ true → i ≤ k → k < i + w → get_or l k 0 ≡ 0
window_place l w i k h a b =
    let e : i + (k - i) ≡ k = omega arith in
    let p : get_or (take w (drop i l)) (k - i) 0 ≡ get_or l (i + (k - i)) 0 = get_or-take w (drop i l) (k - i) 0 (omega arith) ∙ get_or-drop i l (k - i) 0 in
    sym (rw e at p) ∙ zero_place (take w (drop i l)) (k - i) (eqb-true _ 0 h)

-- what a flag says when the last 32 places and those below i are read
pub record Scanned (l : List ℕ) (ok : Bool) (i : ℕ) : Type 0 where
  pub whole : all_zero l ≡ true → ok ≡ true
  pub front : ok ≡ true → (k : ℕ) → k < i → get_or l k 0 ≡ 0
  pub back : ok ≡ true → (k : ℕ) → length l ≤ k + 32 → get_or l k 0 ≡ 0

-- the first 32 and the last
pub scanned_ends : (l : List ℕ) (i : ℕ) → 32 ≤ length l → i ≤ 32 → Scanned l (all_zero (take 32 (drop 0 l)) && all_zero (take 32 (drop (length l - 32) l))) i
scanned_ends l i n h =
    record {
      whole = λ z. join _ _ (zero_window l 32 0 z) (zero_window l 32 (length l - 32) z);
      front = λ z k b. window_place l 32 0 k (both (all_zero (take 32 (drop 0 l))) (all_zero (take 32 (drop (length l - 32) l))) z).0 (omega arith) (omega arith);
      back = λ z k b. go k (both (all_zero (take 32 (drop 0 l))) (all_zero (take 32 (drop (length l - 32) l))) z).1 b (dec_lt k (length l));
    }
  where
    go : (k : ℕ) → all_zero (take 32 (drop (length l - 32) l)) ≡ true → length l ≤ k + 32 → Dec (k < length l) → get_or l k 0 ≡ 0
    go k z b (yes s) = window_place l 32 (length l - 32) k z (omega arith) (omega arith)
    go k z b (no s) = get_or-eq_default l 0 (omega arith)

-- one window more
pub scanned_more : (l : List ℕ) (ok : Bool) (i w : ℕ) → Scanned l ok i → Scanned l (ok && all_zero (take w (drop i l))) (i + w)
scanned_more l ok i w s =
    record {
      whole = λ z. join _ _ (s.whole z) (zero_window l w i z);
      front = λ z k b. go z k b (dec_lt k i);
      back = λ z. s.back (both ok (all_zero (take w (drop i l))) z).0;
    }
  where
    go : (ok && all_zero (take w (drop i l))) ≡ true → (k : ℕ) → k < i + w → Dec (k < i) → get_or l k 0 ≡ 0
    go z k b (yes f) = s.front (both ok (all_zero (take w (drop i l))) z).0 k f
    go z k b (no f) = window_place l w i k (both ok (all_zero (take w (drop i l))) z).1 (omega arith) b

-- when they meet, the flag says it of all
pub scanned_all : (l : List ℕ) (ok : Bool) (i : ℕ) → Scanned l ok i → length l ≤ i + 32 → ok ≡ all_zero l
scanned_all l ok i s n = go ok refl (all_zero l) refl
  where
    at : ok ≡ true → (k : ℕ) → Dec (k < i) → get_or l k 0 ≡ 0
    at z k (yes f) = s.front z k f
    at z k (no f) = s.back z k (omega arith)

    go : (b : Bool) → ok ≡ b → (d : Bool) → all_zero l ≡ d → ok ≡ all_zero l
    go true e d f = e ∙ sym (eq-eqb _ 0 (places_zero l (λ (k : ℕ). at e k (dec_lt k i))))
    go false e true f = absurd (true≢false (sym (s.whole f) ∙ e))
    go false e false f = e ∙ sym f
