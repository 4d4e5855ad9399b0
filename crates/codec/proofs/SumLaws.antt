-- Laws of sums, also of tables by rows, and of the greatest number. Assumes nothing.
use Prim.Native.Nat.{ℕ, zero, suc, ◌+◌, ◌*◌, ◌≤◌, ◌<◌, max}
use mathlib.Core.Path.{◌≡◌, refl, sym}
use mathlib.Core.Logic.{◌≢◌}
use native.Mathlib.Omega.{arith}
use native.Mathlib.Decide.{ℕ_discrete}
use native.Mathlib.Numerals.{add-one}
use native.Mathlib.Nat.{zero-mul, suc-mul}
use Rattle.codec.specs.Every.{sum, greatest}

-- each at most the other's, so is the sum
pub sum_below : (n : ℕ) (f g : ℕ → ℕ) → ((j : ℕ) → j < n → f j ≤ g j) → sum n f ≤ sum n g
unfolding sum
sum_below zero f g h = omega arith
sum_below (suc n) f g h = let k = sum_below n f g (λ j l. h j (omega arith)) in let l = h n (omega arith) in omega arith

-- the same numbers have the same sum, and zeros have 0
pub sum_same : (n : ℕ) (f g : ℕ → ℕ) → ((j : ℕ) → j < n → f j ≡ g j) → sum n f ≡ sum n g
unfolding sum
sum_same zero f g h = refl
sum_same (suc n) f g h = let k = sum_same n f g (λ j l. h j (omega arith)) in let l = h n (omega arith) in omega arith

pub sum-zero : (n : ℕ) (f : ℕ → ℕ) → ((j : ℕ) → j < n → f j ≡ 0) → sum n f ≡ 0
unfolding sum
sum-zero zero f h = refl
sum-zero (suc n) f h = let k = sum-zero n f (λ j l. h j (omega arith)) in let l = h n (omega arith) in omega arith

-- one of them 1 more, so is the sum
pub sum_grows : (n : ℕ) (f g : ℕ → ℕ) (j : ℕ) → j < n → g j ≡ suc (f j) → ((k : ℕ) → k ≢ j → g k ≡ f k) → sum n g ≡ suc (sum n f)
unfolding sum
sum_grows zero f g j h e o = absurd (omega arith)
sum_grows (suc n) f g j h e o = go (ℕ_discrete j n) (λ l. sum_grows n f g j l e o)
  where
    go : Dec (j ≡ n) → (j < n → sum n g ≡ suc (sum n f)) → sum n g + g n ≡ suc (sum n f + f n)
    go (yes p) r = let k = sum_same n g f (λ m l. o m (omega arith)) in let l : g n ≡ suc (f n) = rw p at e in omega arith
    go (no p) r = let k = r (omega arith) in let l = o n (λ q. p (sym q)) in omega arith

-- a sum in two parts, and by rows of w numbers
pub sum-add : (n m : ℕ) (f : ℕ → ℕ) → sum (n + m) f ≡ sum n f + sum m (λ (i : ℕ). f (n + i))
unfolding sum
sum-add n zero f = let e : n + 0 ≡ n = omega arith in rw e (omega arith)
sum-add n (suc m) f = let e : n + suc m ≡ suc (n + m) = omega arith in rw e (omega (arith, sum-add n m f))

pub sum_rows : (w n : ℕ) (f : ℕ → ℕ) → sum (n * w) f ≡ sum n (λ (i : ℕ). sum w (λ (j : ℕ). f (i * w + j)))
unfolding sum
sum_rows w zero f = rw zero-mul
sum_rows w (suc n) f = rw (suc-mul, sum-add, sum_rows w n f)

-- ---- tables of n rows of m numbers
module _ (n m : ℕ) (f g : ℕ → ℕ → ℕ) where
  pub table_same : ((i j : ℕ) → f i j ≡ g i j) → sum n (λ (i : ℕ). sum m (f i)) ≡ sum n (λ (i : ℕ). sum m (g i))
  table_same h = sum_same n _ _ (λ i l. sum_same m (f i) (g i) (λ j k. h i j))

  -- one place 1 more, so is the sum
  pub table_grows : (i j : ℕ) → i < n → j < m → g i j ≡ suc (f i j) → ((a b : ℕ) → (a ≡ i → b ≡ j → ⊥) → g a b ≡ f a b)
      → sum n (λ (i : ℕ). sum m (g i)) ≡ suc (sum n (λ (i : ℕ). sum m (f i)))
  table_grows i j il jl e o =
      sum_grows n (λ (i : ℕ). sum m (f i)) (λ (i : ℕ). sum m (g i)) i il (sum_grows m (f i) (g i) j jl e (λ b k. o i b (λ p q. k q)))
      (λ a k. sum_same m (g a) (f a) (λ b l. o a b (λ p q. k p)))

-- ---- the greatest
pub greatest_none : (f : ℕ → ℕ) → greatest 0 f ≡ 0
unfolding greatest
greatest_none f = refl

-- of one number more
pub greatest_more : (n : ℕ) (f : ℕ → ℕ) → greatest (n + 1) f ≡ max (greatest n f) (f n)
unfolding greatest
greatest_more n f = rw add-one

-- at least each, and at most what each is
pub greatest_at : (n : ℕ) (f : ℕ → ℕ) (i : ℕ) → i < n → f i ≤ greatest n f
unfolding greatest
greatest_at zero f i h = absurd (omega arith)
greatest_at (suc n) f i h = go (ℕ_discrete i n) (greatest_at n f i)
  where
    go : Dec (i ≡ n) → (i < n → f i ≤ greatest n f) → f i ≤ max (greatest n f) (f n)
    go (yes p) r = rw p (omega arith)
    go (no p) r = let k = r (omega arith) in omega arith

pub greatest-below : (n : ℕ) (f : ℕ → ℕ) (b : ℕ) → ((i : ℕ) → i < n → f i ≤ b) → greatest n f ≤ b
unfolding greatest
greatest-below zero f b h = omega arith
greatest-below (suc n) f b h = let k = greatest-below n f b (λ i l. h i (omega arith)) in let l = h n (omega arith) in omega arith
