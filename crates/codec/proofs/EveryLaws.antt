-- Laws of `every`, `sum` and `total`. Assumes nothing.
use Prim.Native.Nat.{ℕ, zero, suc, ◌+◌, ◌≤◌, ◌<◌}
use mathlib.Core.Path.{◌≡◌, refl, ◌∙◌, sym, ap}
use mathlib.Core.List.{List, [], ◌∷◌, ◌++◌}
use mathlib.Core.Bool.{Bool, true, false, ◌&&◌, and-false, true≢false}
use mathlib.Core.Logic.{⊎_elim}
use native.Mathlib.Omega.{arith}
use native.Mathlib.Numerals.{add-one}
use native.Mathlib.Nat.{eq-or-lt_of_le}
use lib.ListN.{length, get_or, take, drop, replicate, length-take, length-drop}
use lib.Seq.{take-suc, take-add, drop-drop}
use lib.Dec.{eqb}
use lib.Bits.{bit_or, or_add_and, and_le_l, and_le_r}
use borrow.Author.Tests.{eq-eqb, ne_eqb, eqb-true}
use Rattle.codec.specs.Every.{every, sum, total, all_zero, blank}

pub every_none : (p : ℕ → Bool) → every 0 p ≡ true
unfolding every
every_none p = refl

pub every_more : (n : ℕ) (p : ℕ → Bool) → every n p ≡ true → p n ≡ true → every (n + 1) p ≡ true
unfolding every
every_more n p h e = rw (add-one, h, e)

pub every_fails : (n : ℕ) (p : ℕ → Bool) (i : ℕ) → i < n → p i ≡ false → every n p ≡ false
unfolding every
every_fails zero p i h e = absurd (omega arith)
every_fails (suc n) p i h e =
    ⊎_elim (λ (g : i ≡ n). rw (← g, e, and-false)) (λ (g : i < n). rw (every_fails n p i g e)) (eq-or-lt_of_le {n = i} {m = n} (omega arith))

pub every_at : (n : ℕ) (p : ℕ → Bool) (i : ℕ) → every n p ≡ true → i < n → p i ≡ true
every_at n p i h l = at (p i) refl
  where
    at : (b : Bool) → p i ≡ b → p i ≡ true
    at true e = e
    at false e = let z : true ≡ false = sym h ∙ every_fails n p i l e in absurd (true≢false z)

pub total-append : (a b : List ℕ) → total (a ++ b) ≡ total a + total b
unfolding total
total-append [] b = omega arith
total-append (x ∷ a) b = omega (arith, total-append a b)

pub total_more : (l : List ℕ) (i : ℕ) → i < length l → total (take (i + 1) l) ≡ total (take i l) + get_or l i 0
unfolding total
total_more l i h = rw (add-one, take-suc l i 0, total-append) (omega arith)

pub total-zero : (l : List ℕ) → total l ≡ 0 → l ≡ blank (length l)
unfolding total blank
total-zero [] h = refl
total-zero (x ∷ l) h = let e : x ≡ 0 = omega arith in rw (e, ← total-zero l (omega arith))

pub zeros-total : (n : ℕ) → total (replicate n 0) ≡ 0
unfolding total
zeros-total zero = refl
zeros-total (suc n) = omega (arith, zeros-total n)

-- ---- zeros by `|`
-- a is 0 exactly when b is
abbrev pub Alike : ℕ → ℕ → Type 0
Alike a b = (a ≡ 0 → b ≡ 0) × (b ≡ 0 → a ≡ 0)

pub alike_or : (a t x : ℕ) → Alike a t → Alike (bit_or a x) (t + x)
alike_or a t x h = (
  λ (e : bit_or a x ≡ 0). let z : a ≡ 0 = omega (arith, or_add_and a x, and_le_l a x, and_le_r a x) in omega (arith, h.0 z, or_add_and a x, and_le_l a x, and_le_r a x),
  λ (e : t + x ≡ 0). let z : a ≡ 0 = h.1 (omega arith) in omega (arith, or_add_and a x),
)

pub alike-eqb : (a b : ℕ) → Alike a b → eqb a 0 ≡ eqb b 0
alike-eqb zero b h = sym (eq-eqb b 0 (h.0 refl))
alike-eqb (suc a) zero h = absurd (let z : suc a ≡ 0 = h.1 refl in omega arith)
alike-eqb (suc a) (suc b) h = rw (ne_eqb (suc a) 0 (λ (e : suc a ≡ 0). omega arith), ne_eqb (suc b) 0 (λ (e : suc b ≡ 0). omega arith))

-- two numbers added up are 0 when both are
pub zero-sum : (x y : ℕ) → eqb (x + y) 0 ≡ (eqb x 0 && eqb y 0)
zero-sum zero y = let e : 0 + y ≡ y = omega arith in rw e
zero-sum (suc x) y = rw (ne_eqb (suc x + y) 0 (λ (e : suc x + y ≡ 0). omega arith), ne_eqb (suc x) 0 (λ (e : suc x ≡ 0). omega arith))

-- and so are two joined by `|`
pub or_zero : (a b : ℕ) → eqb (bit_or a b) 0 ≡ (eqb a 0 && eqb b 0)
or_zero a b = alike-eqb (bit_or a b) (a + b) (alike_or a a b ((λ (e : a ≡ 0). e), (λ (e : a ≡ 0). e))) ∙ zero-sum a b

-- ---- sums
pub sum_none : (f : ℕ → ℕ) → sum 0 f ≡ 0
unfolding sum
sum_none f = refl

-- one number more
pub sum_more : (n : ℕ) (f : ℕ → ℕ) → sum (n + 1) f ≡ sum n f + f n
unfolding sum
sum_more n f = rw add-one

-- ---- more of `every` and `&&`
-- two tests that imply each other are equal
pub bool_iff : (a b : Bool) → (a ≡ true → b ≡ true) → (b ≡ true → a ≡ true) → a ≡ b
bool_iff true b f g = sym (f refl)
bool_iff false true f g = g refl
bool_iff false false f g = refl

pub both : (a b : Bool) → (a && b) ≡ true → (a ≡ true) × (b ≡ true)
both true b h = (refl, h)
both false b h = let z : ◌≡◌ {A = ℕ} 0 1 = cc in absurd (omega arith)

pub join : (a b : Bool) → a ≡ true → b ≡ true → (a && b) ≡ true
join a b h g = rw (h, g)

pub every_of : (n : ℕ) (p : ℕ → Bool) → ((i : ℕ) → i < n → p i ≡ true) → every n p ≡ true
unfolding every
every_of zero p h = refl
every_of (suc n) p h = join (every n p) (p n) (every_of n p (λ (i : ℕ) (l : i < n). h i (omega arith))) (h n (omega arith))

pub zeros-blank : (n : ℕ) → eqb (total (blank n)) 0 ≡ true
unfolding blank
zeros-blank n = eq-eqb _ _ (zeros-total n)

-- a part that is all zeros is a run of zeros
pub zero_part : (l : List ℕ) (k n : ℕ) → n + k ≤ length l → all_zero (take k (drop n l)) ≡ true → take k (drop n l) ≡ blank k
zero_part l k n h z =
    let e : length (take k (drop n l)) ≡ k = simp (length-take, length-drop) (omega arith) in
    total-zero (take k (drop n l)) (eqb-true _ 0 z) ∙ ap blank e

-- two tests that agree below n
pub every_same : (n : ℕ) (p q : ℕ → Bool) → ((i : ℕ) → i < n → p i ≡ q i) → every n p ≡ every n q
unfolding every
every_same zero p q h = refl
every_same (suc n) p q h = rw (every_same n p q (λ (i : ℕ) (l : i < n). h i (omega arith)), h n (omega arith))

-- ---- zeros in two parts that overlap
total_part : (l : List ℕ) (at n m : ℕ) → total (take (n + m) (drop at l)) ≡ total (take n (drop at l)) + total (take m (drop (at + n) l))
total_part l at n m = rw (take-add n m (drop at l), total-append, drop-drop)

zero-sums : (x y z : ℕ) → eqb (x + y + z) 0 ≡ (eqb (x + y) 0 && eqb (y + z) 0)
zero-sums zero zero z = refl
zero-sums zero (suc y) z = rw (ne_eqb (0 + suc y + z) 0 (λ (e : 0 + suc y + z ≡ 0). omega arith), ne_eqb (0 + suc y) 0 (λ (e : 0 + suc y ≡ 0). omega arith))
zero-sums (suc x) y z = rw (ne_eqb (suc x + y + z) 0 (λ (e : suc x + y + z ≡ 0). omega arith), ne_eqb (suc x + y) 0 (λ (e : suc x + y ≡ 0). omega arith))

-- n + o bytes are zero, and o + m whose first are the last o of those
pub zeros_overlap : (l : List ℕ) (at n o m : ℕ) → all_zero (take (n + o + m) (drop at l)) ≡ (all_zero (take (n + o) (drop at l)) && all_zero (take (o + m) (drop (at + n) l)))
zeros_overlap l at n o m =
    let e : at + (n + o) ≡ at + n + o = omega arith in
    rw (total_part l at (n + o) m, total_part l at n o, total_part l (at + n) o m, e)
    (zero-sums (total (take n (drop at l))) (total (take o (drop (at + n) l))) (total (take m (drop (at + n + o) l))))
