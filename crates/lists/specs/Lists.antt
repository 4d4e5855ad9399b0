-- Lists made of numbers. Assumes nothing.
use Rattle.std.specs.Prelude.{ℕ, zero, suc, ◌+◌, ◌<◌, ◌≤◌, ◌≡◌, List, [], ◌∷◌, ◌++◌, Bool, cond, eqb, length, get_or}

-- the numbers below n that pass a test, rising
unfoldable pub passing : ℕ → (ℕ → Bool) → List ℕ
passing zero p = []
passing (suc n) p = cond (p n) (passing n p ++ (n ∷ [])) (passing n p)

-- f 0, f 1, .. up to f (n - 1), one behind the other
unfoldable pub joined : ℕ → (ℕ → List ℕ) → List ℕ
joined zero f = []
joined (suc n) f = joined n f ++ f n

-- the sum of f over a list
abbrev pub sum_of : (ℕ → ℕ) → List ℕ → ℕ
sum_of f [] = 0
sum_of f (x ∷ l) = f x + sum_of f l

abbrev pub is : ℕ → ℕ → ℕ
is x y = cond (eqb x y) 1 0

-- how often x stands in a list
abbrev pub count : ℕ → List ℕ → ℕ
count x l = sum_of (is x) l

-- each element stands in a relation to all behind it
abbrev pub Sorted : (ℕ → ℕ → Type 0) → List ℕ → Type 0
Sorted R l = (i j : ℕ) → i < j → j < length l → R (get_or l i 0) (get_or l j 0)

-- rising by r
abbrev pub Up : (ℕ → ℕ) → List ℕ → Type 0
Up r l = (i j : ℕ) → i < j → j < length l → r (get_or l i 0) ≤ r (get_or l j 0)

-- a list put in order: as many elements, the same ones (every sum over them is the same, and so how often each stands there), rising
pub record Arranged (r : ℕ → ℕ) (before after : List ℕ) : Type 0 where
  pub size : length after ≡ length before
  pub sums : (f : ℕ → ℕ) → sum_of f after ≡ sum_of f before
  pub up : Up r after

-- the order of the numbers themselves
abbrev pub same : ℕ → ℕ
same x = x
