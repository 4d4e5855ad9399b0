-- Laws of `some`: a test that holds of some number below a bound. Assumes nothing.
use Prim.Native.Nat.{ℕ, zero, suc, ◌+◌, ◌<◌}
use mathlib.Core.Path.{◌≡◌, refl, sym, ◌∙◌}
use mathlib.Core.Logic.{⊎_elim}
use mathlib.Core.Bool.{Bool, true, false, ◌||◌, true≢false}
use native.Mathlib.Omega.{arith}
use native.Mathlib.Numerals.{add-one}
use native.Mathlib.Nat.{eq-or-lt_of_le}
use Rattle.codec.specs.Every.{some}

pub some_more : (n : ℕ) (p : ℕ → Bool) → some (n + 1) p ≡ (some n p || p n)
unfolding some
some_more n p = rw add-one

-- two tests that agree below n
pub some_same : (n : ℕ) (p q : ℕ → Bool) → ((i : ℕ) → i < n → p i ≡ q i) → some n p ≡ some n q
unfolding some
some_same zero p q h = refl
some_same (suc n) p q h = rw (some_same n p q (λ (i : ℕ) (l : i < n). h i (omega arith)), h n (omega arith))

or_true : (a : Bool) → (a || true) ≡ true
or_true true = refl
or_true false = refl

-- one of which it holds
pub some_of : (n : ℕ) (p : ℕ → Bool) (i : ℕ) → i < n → p i ≡ true → some n p ≡ true
unfolding some
some_of zero p i l e = absurd (omega arith)
some_of (suc n) p i l e =
    ⊎_elim (λ (g : i ≡ n). rw (← g, e) (or_true (some i p))) (λ (g : i < n). rw (some_of n p i g e)) (eq-or-lt_of_le {n = i} {m = n} (omega arith))

-- none
pub some_not : (n : ℕ) (p : ℕ → Bool) → ((i : ℕ) → i < n → p i ≡ false) → some n p ≡ false
unfolding some
some_not zero p h = refl
some_not (suc n) p h = rw (some_not n p (λ (i : ℕ) (l : i < n). h i (omega arith)), h n (omega arith))

-- where it holds of some, it holds of one
pub some_holds : (n : ℕ) (p : ℕ → Bool) → some n p ≡ true → (i : ℕ) × (i < n) × (p i ≡ true)
unfolding some
some_holds zero p h = absurd (true≢false (sym h))
some_holds (suc n) p h = go (p n) refl (some n p) refl (some_holds n p)
  where
    go : (t : Bool) → p n ≡ t → (u : Bool) → some n p ≡ u → (some n p ≡ true → (i : ℕ) × (i < n) × (p i ≡ true)) → (i : ℕ) × (i < suc n) × (p i ≡ true)
    go true e u f k = (n, omega arith, e)
    go false e true f k = let (i, l, g) = k f in (i, omega arith, g)
    go false e false f k = absurd (true≢false (sym h ∙ rw (f, e)))

-- where it holds of none, it fails of each
pub some_fails : (n : ℕ) (p : ℕ → Bool) → some n p ≡ false → (i : ℕ) → i < n → p i ≡ false
some_fails n p h i l = go (p i) refl
  where
    go : (t : Bool) → p i ≡ t → p i ≡ false
    go true e = absurd (true≢false (sym (some_of n p i l e) ∙ h))
    go false e = e
