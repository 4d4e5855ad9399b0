-- Sums over lists: one behind another, joined, of numbers that pass a test, and by classes. Assumes nothing.
use Prim.Native.Nat.{ℕ, zero, suc, ◌+◌, ◌<◌}
use mathlib.Core.Path.{◌≡◌, refl, ◌∙◌, sym, ap}
use mathlib.Core.Logic.{◌≢◌}
use mathlib.Core.List.{List, [], ◌∷◌, ◌++◌}
use mathlib.Core.Bool.{Bool, true, false, ◌&&◌, and-false}
use native.Mathlib.Omega.{arith}
use native.Mathlib.Decide.{ℕ_discrete}
use lib.Dec.{eqb}
use lib.ListN.{length}
use borrow.Author.Tests.{eq-eqb, ne_eqb}
use Rattle.codec.specs.Every.{sum}
use Rattle.codec.proofs.CountLaws.{grow}
use Rattle.codec.proofs.SumLaws.{sum_same, sum-zero}
use Rattle.lists.specs.Lists.{passing, joined, sum_of}
use Rattle.lists.specs.Places.{by_class}
use Rattle.lists.proofs.PassingLaws.{passing_none, passing-passed, passing_failed}

-- one of the numbers v more, and so is the sum
sum-raised : (m c v : ℕ) (f g : ℕ → ℕ) → c < m → g c ≡ f c + v → ((s : ℕ) → s < m → s ≢ c → g s ≡ f s) → sum m g ≡ sum m f + v
unfolding sum
sum-raised zero c v f g h e o = absurd (omega arith)
sum-raised (suc m) c v f g h e o = go (ℕ_discrete c m) (λ l. sum-raised m c v f g l e (λ s b. o s (omega arith)))
  where
    go : Dec (c ≡ m) → (c < m → sum m g ≡ sum m f + v) → sum m g + g m ≡ sum m f + f m + v
    go (yes p) r = omega (arith, sum_same m g f (λ s l. o s (omega arith) (λ z. omega arith)), ap g p, ap f p)
    go (no p) r = omega (arith, r (omega (arith, p)), o m (omega arith) (λ z. p (sym z)))

-- a list is as long as the sum of 1 over it
pub sum_ones : (l : List ℕ) → sum_of (λ (x : ℕ). 1) l ≡ length l
sum_ones [] = refl
sum_ones (x ∷ l) = omega (arith, sum_ones l)

module _ (f : ℕ → ℕ) where
  pub sum-append : (a b : List ℕ) → sum_of f (a ++ b) ≡ sum_of f a + sum_of f b
  sum-append [] b = omega arith
  sum-append (x ∷ a) b = omega (arith, sum-append a b)

  pub sum-joined : (n : ℕ) (g : ℕ → List ℕ) → sum_of f (joined n g) ≡ sum n (λ (i : ℕ). sum_of f (g i))
  unfolding joined sum
  sum-joined zero g = refl
  sum-joined (suc n) g = sum-append (joined n g) (g n) ∙ omega (arith, sum-joined n g)

  -- ---- of numbers that pass
  pub sum_none : (p : ℕ → Bool) → sum_of f (passing 0 p) ≡ 0
  sum_none p = rw (passing_none p)

  pub sum-passed : (p : ℕ → Bool) (n : ℕ) → p n ≡ true → sum_of f (passing (n + 1) p) ≡ sum_of f (passing n p) + f n
  sum-passed p n e = rw (passing-passed p n e) (sum-append (passing n p) (n ∷ []) ∙ omega arith)

  pub sum_failed : (p : ℕ → Bool) (n : ℕ) → p n ≡ false → sum_of f (passing (n + 1) p) ≡ sum_of f (passing n p)
  sum_failed p n e = rw (passing_failed p n e)

  -- ---- by classes, each number in one: by a key below m
  module _ (p : ℕ → Bool) (key : ℕ → ℕ) (m : ℕ) where
    abbrev of : ℕ → ℕ → Bool
    of s k = p k && eqb (key k) s

    abbrev sums : ℕ → ℕ → ℕ
    sums n s = sum_of f (passing n (of s))

    in_class : (n : ℕ) → p n ≡ true → sums (n + 1) (key n) ≡ sums n (key n) + f n
    in_class n e = sum-passed (of (key n)) n (rw (e, eq-eqb (key n) (key n) refl))

    not_in_class : (n s : ℕ) → s ≢ key n → sums (n + 1) s ≡ sums n s
    not_in_class n s d = sum_failed (of s) n (rw (ne_eqb (key n) s (λ z. d (sym z))) (and-false (p n)))

    in_none : (n s : ℕ) → p n ≡ false → sums (n + 1) s ≡ sums n s
    in_none n s e = sum_failed (of s) n (rw e)

    apart : (n : ℕ) → ((k : ℕ) → k < n → p k ≡ true → key k < m) → sum m (sums n) ≡ sum_of f (passing n p)
    apart =
        grow p (λ (n : ℕ). ((k : ℕ) → k < n → p k ≡ true → key k < m) → sum m (sums n) ≡ sum_of f (passing n p))
        (λ h. sum-zero m (sums 0) (λ s l. sum_none (of s)) ∙ sym (sum_none p))
        (λ n e g h. omega (arith, sum-raised m (key n) (f n) (sums n) (sums (n + 1)) (h n (omega arith) e) (in_class n e) (λ s l d. not_in_class n s d), g (λ k l. h k (omega arith)), sum-passed p n e))
        (λ n e g h. omega (arith, sum_same m (sums (n + 1)) (sums n) (λ s l. in_none n s e), g (λ k l. h k (omega arith)), sum_failed p n e))

    pub sum_by_class : (n : ℕ) → ((k : ℕ) → k < n → p k ≡ true → key k < m) → sum_of f (by_class of n m) ≡ sum_of f (passing n p)
    sum_by_class n h = sum-joined m (λ (s : ℕ). passing n (of s)) ∙ apart n h
