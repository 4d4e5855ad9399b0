-- Laws of `put`. Assumes nothing.
use Prim.Native.Nat.{ℕ, zero, suc, max, ◌<◌}
use mathlib.Core.Path.{◌≡◌, refl, ap}
use mathlib.Core.List.{List, [], ◌∷◌}
use native.Mathlib.Omega.{arith}
use lib.ListN.{length, get_or, set}
use Rattle.codec.specs.Put.{put}

module _ {A : Type 0} (d : A) where
  -- within the list it is `set`
  pub put-set : (l : List A) (i : ℕ) (b : A) → i < length l → put d l i b ≡ set l i b
  put-set [] i b h = absurd (omega arith)
  put-set (x ∷ l) zero b h = refl
  put-set (x ∷ l) (suc i) b h = ap (◌∷◌ x) (put-set l i b (omega arith))

  -- read at the same place
  pub put_same : (l : List A) (i : ℕ) (b : A) → get_or (put d l i b) i d ≡ b
  put_same [] zero b = refl
  put_same [] (suc i) b = put_same [] i b
  put_same (x ∷ l) zero b = refl
  put_same (x ∷ l) (suc i) b = put_same l i b

  -- read at another place
  pub put_other : (l : List A) (i k : ℕ) (b : A) → (k ≡ i → ⊥) → get_or (put d l i b) k d ≡ get_or l k d
  put_other [] zero zero b n = absurd (n refl)
  put_other [] zero (suc k) b n = refl
  put_other [] (suc i) zero b n = refl
  put_other [] (suc i) (suc k) b n = put_other [] i k b (λ (e : k ≡ i). n (ap suc e))
  put_other (x ∷ l) zero zero b n = absurd (n refl)
  put_other (x ∷ l) zero (suc k) b n = refl
  put_other (x ∷ l) (suc i) zero b n = refl
  put_other (x ∷ l) (suc i) (suc k) b n = put_other l i k b (λ (e : k ≡ i). n (ap suc e))

  pub put-length : (l : List A) (i : ℕ) (b : A) → length (put d l i b) ≡ max (length l) (suc i)
  put-length [] zero b = refl
  put-length [] (suc i) b = omega (arith, put-length [] i b)
  put-length (x ∷ l) zero b = omega arith
  put-length (x ∷ l) (suc i) b = omega (arith, put-length l i b)

  -- within the list the length stays
  pub put_keeps : (l : List A) (i : ℕ) (b : A) → i < length l → length (put d l i b) ≡ length l
  put_keeps l i b h = omega (arith, put-length l i b)
