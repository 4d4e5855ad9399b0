-- Laws of flags: a test of every index gathered without a branch, and tests made of others. Assumes nothing.
use Prim.Native.Nat.{ℕ, zero, suc, ◌+◌, ◌*◌, ◌≤◌, ◌<◌}
use mathlib.Core.Path.{◌≡◌, refl, sym}
use mathlib.Core.Bool.{Bool, true, false, not, ◌&&◌, ◌||◌, and-false, and-true, and_assoc}
use native.Mathlib.Omega.{arith}
use native.Mathlib.Numerals.{add-one}
use native.Mathlib.Nat.{zero-mul, suc-mul}
use lib.Dec.{eqb, leb, ltb}
use borrow.Author.Tests.{ltb-true, ltb-false, leb-true, leb-false, le-leb, lt-leb, eq-eqb, ne_eqb}
use Rattle.codec.specs.Every.{every}

-- one index more
pub every_turn : (n : ℕ) (p : ℕ → Bool) → every (n + 1) p ≡ (every n p && p n)
unfolding every
every_turn n p = rw add-one

-- at most is not greater
pub leb-not-ltb : (a b : ℕ) → leb a b ≡ not (ltb b a)
leb-not-ltb a b = go (ltb b a) refl
  where
    go : (t : Bool) → ltb b a ≡ t → leb a b ≡ not t
    go true e = lt-leb a b (ltb-true b a e)
    go false e = le-leb a b (ltb-false b a e)

-- De Morgan
pub not_or : (a b : Bool) → not (a || b) ≡ (not a && not b)
not_or true b = refl
not_or false b = refl

-- what is not true is false
pub false_of : (b : Bool) → (b ≡ true → ⊥) → b ≡ false
false_of true n = absurd (n refl)
false_of false n = refl

-- equal is at most, both ways
pub eqb_both : (a b : ℕ) → eqb a b ≡ (leb a b && leb b a)
eqb_both a b = go (leb a b) refl (leb b a) refl
  where
    go : (t : Bool) → leb a b ≡ t → (u : Bool) → leb b a ≡ u → eqb a b ≡ (t && u)
    go true e true f = let h : a ≤ b = leb-true a b e in let g : b ≤ a = leb-true b a f in eq-eqb a b (omega arith)
    go true e false f = let h : a < b = leb-false b a f in ne_eqb a b (λ (q : a ≡ b). omega arith)
    go false e u f = let h : b < a = leb-false a b e in ne_eqb a b (λ (q : a ≡ b). omega arith)

and-swap : (a b c d : Bool) → (a && b && (c && d)) ≡ (a && c && (b && d))
and-swap true true c d = refl
and-swap true false c d = sym (and-false c)
and-swap false b c d = refl

-- a test that is two tests
pub every_both : (s p q : ℕ → Bool) → ((k : ℕ) → s k ≡ (p k && q k)) → (n : ℕ) → every n s ≡ (every n p && every n q)
unfolding every
every_both s p q h zero = refl
every_both s p q h (suc n) = rw (h n, every_both s p q h n) (and-swap (every n p) (every n q) (p n) (q n))

-- ---- rows
-- a test of n + m indices in two parts
every-add : (n m : ℕ) (p : ℕ → Bool) → every (n + m) p ≡ (every n p && every m (λ (i : ℕ). p (n + i)))
unfolding every
every-add n zero p = let e : n + 0 ≡ n = omega arith in rw (e, and-true)
every-add n (suc m) p =
    let e : n + suc m ≡ suc (n + m) = omega arith in
    rw (e, every-add n m p) (and_assoc (every n p) (every m (λ (i : ℕ). p (n + i))) (p (n + m)))

-- n rows of w indices, row by row
pub every-rows : (w n : ℕ) (p : ℕ → Bool) → every (n * w) p ≡ every n (λ (i : ℕ). every w (λ (j : ℕ). p (i * w + j)))
unfolding every
every-rows w zero p = rw zero-mul
every-rows w (suc n) p = rw (suc-mul, every-add, every-rows w n p)
