-- Laws of the rows and columns of a block. Assumes nothing.
use Prim.Native.Nat.{ℕ, zero, suc, ◌+◌, ◌*◌, ◌-◌, ◌≤◌, ◌<◌}
use mathlib.Core.Path.{◌≡◌, refl, ◌∙◌, sym, ap}
use mathlib.Core.List.{List}
use native.Mathlib.Omega.{arith}
use native.Mathlib.Numerals.{add-one}
use native.Mathlib.Nat.{zero-mul, suc-mul, mul-le-mul}
use native.Mathlib.Decide.{ℕ_discrete}
use lib.ListN.{length, get_or, set, take}
use lib.Seq.{get_or-set_same, get_or-set_other}
use Rattle.codec.specs.Every.{sum}
use Rattle.codec.proofs.EveryLaws.{sum_more}
use Rattle.codec.proofs.SumLaws.{sum-add}
use Rattle.checksum.specs.Check.{weighted}
use Rattle.checksum.specs.Columns.{column_sum, column_rows, column_share, columns_to, SumsAt}
use Rattle.checksum.proofs.CheckLaws.{weighted_more, weighted_none}

-- ---- sums
-- sums of numbers that agree
sum_same : (n : ℕ) (f g : ℕ → ℕ) → ((i : ℕ) → f i ≡ g i) → sum n f ≡ sum n g
unfolding sum
sum_same zero f g h = refl
sum_same (suc n) f g h = omega (arith, sum_same n f g h, h n)

-- two sums in one
sum_both : (n : ℕ) (f g : ℕ → ℕ) → sum n (λ (i : ℕ). f i + g i) ≡ sum n f + sum n g
unfolding sum
sum_both zero f g = refl
sum_both (suc n) f g = omega (arith, sum_both n f g)

sum-zero : (n : ℕ) → sum n (λ (i : ℕ). 0) ≡ 0
unfolding sum
sum-zero zero = refl
sum-zero (suc n) = omega (arith, sum-zero n)

-- n rows of w numbers, added up by the columns
by_columns : (w n : ℕ) (f : ℕ → ℕ) → sum (n * w) f ≡ sum w (λ (j : ℕ). sum n (λ (r : ℕ). f (r * w + j)))
unfolding sum
by_columns w zero f = rw zero-mul (sym (sum-zero w))
by_columns w (suc n) f =
    rw suc-mul
    (sum-add (n * w) w f
    ∙ ap (λ (x : ℕ). x + sum w (λ (j : ℕ). f (n * w + j))) (by_columns w n f)
    ∙ sym (sum_both w (λ (j : ℕ). sum n (λ (r : ℕ). f (r * w + j))) (λ (j : ℕ). f (n * w + j))))

-- the weighted sum by the places
by_places : (l : List ℕ) (n : ℕ) → n ≤ length l → weighted 1 (take n l) ≡ sum n (λ (p : ℕ). (p + 1) * get_or l p 0)
unfolding sum
by_places l zero h = weighted_none
by_places l (suc n) h = let m = weighted_more l n (omega arith) in let e : n + 1 ≡ suc n = omega arith in (rw e at m) ∙ omega (arith, by_places l n (omega arith))

-- ---- the columns
pub column_more : (n : ℕ) (l : List ℕ) (j : ℕ) → column_sum (n + 1) l j ≡ column_sum n l j + get_or l (n * 32 + j) 0
unfolding column_sum
column_more n l j = sum_more n (λ (r : ℕ). get_or l (r * 32 + j) 0)

pub rows_more : (n : ℕ) (l : List ℕ) (j : ℕ) → column_rows (n + 1) l j ≡ column_rows n l j + n * get_or l (n * 32 + j) 0
unfolding column_rows
rows_more n l j = sum_more n (λ (r : ℕ). r * get_or l (r * 32 + j) 0)

pub columns_more : (n k : ℕ) (l : List ℕ) → columns_to n (k + 1) l ≡ columns_to n k l + column_share n l k
unfolding columns_to
columns_more n k l = sum_more k (column_share n l)

pub none : (l : List ℕ) (j : ℕ) → (column_sum 0 l j ≡ 0) × (column_rows 0 l j ≡ 0)
unfolding sum column_sum column_rows
none l j = (refl, refl)

pub no_columns : (n : ℕ) (l : List ℕ) → columns_to n 0 l ≡ 0
unfolding sum columns_to
no_columns n l = refl

-- what a column of n rows comes to
of_column : (n : ℕ) (l : List ℕ) (j : ℕ) → sum n (λ (r : ℕ). (r * 32 + j + 1) * get_or l (r * 32 + j) 0) ≡ column_share n l j
unfolding sum column_sum column_rows column_share
of_column zero l j = omega arith
of_column (suc n) l j = omega (arith, of_column n l j)

-- the columns of n rows are the first n * 32 bytes
pub columns_are : (n : ℕ) (l : List ℕ) → n * 32 ≤ length l → columns_to n 32 l ≡ weighted 1 (take (n * 32) l)
unfolding columns_to
columns_are n l h =
    sum_same 32 _ _ (λ (j : ℕ). sym (of_column n l j)) ∙ sym (by_columns 32 n (λ (p : ℕ). (p + 1) * get_or l p 0)) ∙ sym (by_places l (n * 32) h)

-- a turn of the loop over the rows, from the last to the first
pub turn_rows : (l : List ℕ) (j r low high x : ℕ) → 0 < r → x ≡ get_or l ((r - 1) * 32 + j) 0 → low + column_sum r l j ≡ column_sum 15 l j
    → high + r * low + column_rows r l j ≡ column_rows 15 l j
    → (low + x + column_sum (r - 1) l j ≡ column_sum 15 l j) × (high + low + (r - 1) * (low + x) + column_rows (r - 1) l j ≡ column_rows 15 l j)
turn_rows l j zero low high x z e f g = absurd (omega arith)
turn_rows l j (suc m) low high x z e f g =
    let p : suc m - 1 ≡ m = omega arith in
    let b : x ≡ get_or l (m * 32 + j) 0 = rw p at e in
    let u : column_sum (suc m) l j ≡ column_sum m l j + get_or l (m * 32 + j) 0 = rw (add-one m) at (column_more m l j) in
    let v : column_rows (suc m) l j ≡ column_rows m l j + m * get_or l (m * 32 + j) 0 = rw (add-one m) at (rows_more m l j) in
    rw (p, b) (omega arith)

-- ---- the arrays of the columns
-- one column more
pub sums_more : (l lows highs : List ℕ) (j x y : ℕ) → j < length lows → j < length highs → ((k : ℕ) → k < j → SumsAt l lows highs k)
    → (x ≡ column_sum 15 l j) × (y ≡ column_rows 15 l j) × (x ≤ 3825) × (y ≤ 53550) → (k : ℕ) → k < j + 1 → SumsAt l (set lows j x) (set highs j y) k
sums_more l lows highs j x y m n h f k b = go (ℕ_discrete k j)
  where
    go : Dec (k ≡ j) → SumsAt l (set lows j x) (set highs j y) k
    go (yes e) = rw (e, get_or-set_same lows j x 0 m, get_or-set_same highs j y 0 n) f
    go (no e) = rw (get_or-set_other lows j k x 0 e, get_or-set_other highs j k y 0 e) (h k (omega arith))

-- a column's share is small
pub share_small : (k x m : ℕ) → k < 32 → x ≤ m → (k + 1) * x ≤ 32 * m
share_small k x m h g = mul-le-mul {n₁ = k + 1} {m₁ = x} {n₂ = 32} {m₂ = m} (omega arith) g

-- a column of three rows, by its bytes
sums-of_three : (l : List ℕ) (j a b c : ℕ) → a ≡ get_or l j 0 → b ≡ get_or l (32 + j) 0 → c ≡ get_or l (64 + j) 0 → (column_rows 3 l j ≡ b + 2 * c) × (column_sum 3 l j ≡ a + b + c)
unfolding sum column_sum column_rows
sums-of_three l j a b c e f g = let z : get_or l (0 * 32 + j) 0 ≡ get_or l j 0 = ap (λ (k : ℕ). get_or l k 0) (omega arith) in omega arith

pub share_of_three : (l : List ℕ) (j a b c : ℕ) → a ≡ get_or l j 0 → b ≡ get_or l (32 + j) 0 → c ≡ get_or l (64 + j) 0 → (j + 1) * (a + b + c) + 32 * (b + 2 * c) ≡ column_share 3 l j
unfolding column_share
share_of_three l j a b c e f g = let h = sums-of_three l j a b c e f g in rw (h.0, h.1) (omega arith)
