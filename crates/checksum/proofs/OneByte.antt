-- A sealed block with any one byte changed is not sealed. Assumes nothing.
use Prim.Native.Nat.{ℕ, zero, suc, ◌+◌, ◌*◌, ◌-◌, ◌%◌, ◌≤◌, ◌<◌}
use mathlib.Core.Path.{◌≡◌, refl, ◌∙◌, sym, ap}
use mathlib.Core.Logic.{◌≢◌}
use mathlib.Core.List.{List, [], ◌∷◌}
use mathlib.Core.Bool.{true, false, not}
use native.Mathlib.Omega.{arith}
use native.Mathlib.Decide.{dec_lt}
use native.Mathlib.Nat.{mul-add, mul-mod_left, mul-one, mul-le-mul}
use lib.Dec.{eqb}
use lib.ListN.{length, get_or, set, take, length-take}
use lib.Seq.{get_or-set_same, get_or-set_other, take-set-lt, take-set-le, get_or-take}
use borrow.Author.Tests.{eqb-true, eqb-false, ne_eqb, not-true}
use Rattle.codec.specs.Num.{AreBytes}
use Rattle.codec.specs.Every.{every}
use Rattle.checksum.specs.Check.{weighted, check_of, sealed}
use Rattle.codec.proofs.EveryLaws.{every_at}

-- what one changed byte does to the weighted sum
pub weighted-set : (l : List ℕ) (k p y : ℕ) → p < length l → weighted k (set l p y) + (k + p) * get_or l p 0 ≡ weighted k l + (k + p) * y
unfolding weighted
weighted-set [] k p y h = absurd (omega arith)
weighted-set (x ∷ l) k zero y h = let e : k + 0 ≡ k = omega arith in rw e (omega arith)
weighted-set (x ∷ l) k (suc p) y h =
    let e : k + 1 + p ≡ k + suc p = omega arith in
    let r : weighted (k + 1) (set l p y) + (k + suc p) * get_or l p 0 ≡ weighted (k + 1) l + (k + suc p) * y = rw e at (weighted-set l (k + 1) p y (omega arith)) in
    omega arith

-- 65,521 has no divisor from 2 to 255
small_divisors : every 254 (λ (k : ℕ). not (eqb (65521 % (k + 2)) 0)) ≡ true
unfolding every
small_divisors = refl

no_product : (w d : ℕ) → w ≤ 510 → 1 ≤ d → d ≤ 255 → w * d ≡ 65521 → ⊥
no_product w d h g b e = go (dec_lt 1 d)
  where
    go : Dec (1 < d) → ⊥
    go (yes l) =
        let k : d - 2 + 2 ≡ d = omega arith in
        let z : 65521 % d ≡ 0 = rw e at (mul-mod_left w d) in
        let n : not (eqb (65521 % (d - 2 + 2)) 0) ≡ true = every_at 254 (λ (k : ℕ). not (eqb (65521 % (k + 2)) 0)) (d - 2) small_divisors (omega arith) in
        eqb-false _ _ (not-true (eqb (65521 % d) 0) (rw k at n)) z
    go (no l) = let k : d ≡ 1 = omega arith in let f : w * 1 ≡ 65521 = rw k at e in let m : w * 1 ≡ w = mul-one w in omega arith

-- two sums that differ by a byte's share have different remainders
apart : (W U w a y : ℕ) → 1 ≤ w → w ≤ 510 → a < y → y < 256 → U + w * a ≡ W + w * y → (1 + W) % 65521 ≡ (1 + U) % 65521 → ⊥
apart W U w a y h g l b e r =
    let d : ℕ = y - a in
    let s : w * y ≡ w * a + w * d = ap (λ (x : ℕ). w * x) (omega arith) ∙ mul-add w a d in
    let big : w * d ≤ 130050 = mul-le-mul {n₁ = w} {m₁ = d} {n₂ = 510} {m₂ = 255} (omega arith) (omega arith) in
    let low : 1 * 1 ≤ w * d = mul-le-mul {n₁ = 1} {m₁ = 1} {n₂ = w} {m₂ = d} (omega arith) (omega arith) in
    no_product w d g (omega arith) (omega arith) (omega arith)

-- the check of a block with one of its first 510 bytes changed is another
pub check_moves : (l : List ℕ) (p y : ℕ) → p < 510 → 510 ≤ length l → get_or l p 0 < 256 → y < 256 → get_or l p 0 ≢ y → check_of (set l p y) ≢ check_of l
unfolding check_of
check_moves l p y h n b g d e =
    let m : length (take 510 l) ≡ 510 = rw length-take (omega arith) in
    let a : get_or (take 510 l) p 0 ≡ get_or l p 0 = get_or-take 510 l p 0 h in
    let s = weighted-set (take 510 l) 1 p y (omega arith) in
    let s' : weighted 1 (set (take 510 l) p y) + (1 + p) * get_or l p 0 ≡ weighted 1 (take 510 l) + (1 + p) * y = rw a at s in
    let r : (1 + weighted 1 (set (take 510 l) p y)) % 65521 ≡ (1 + weighted 1 (take 510 l)) % 65521 = rw (take-set-lt 510 l p y h) at e in
    go s' r (dec_lt (get_or l p 0) y)
  where
    go : weighted 1 (set (take 510 l) p y) + (1 + p) * get_or l p 0 ≡ weighted 1 (take 510 l) + (1 + p) * y
        → (1 + weighted 1 (set (take 510 l) p y)) % 65521 ≡ (1 + weighted 1 (take 510 l)) % 65521 → Dec (get_or l p 0 < y) → ⊥
    go s r (yes q) = apart _ _ (1 + p) (get_or l p 0) y (omega arith) (omega arith) q g s (sym r)
    go s r (no q) = apart _ _ (1 + p) y (get_or l p 0) (omega arith) (omega arith) (omega arith) b (sym s) r

-- bytes 510 and 511 do not count in the check
check_stays : (l : List ℕ) (p y : ℕ) → 510 ≤ p → check_of (set l p y) ≡ check_of l
unfolding check_of
check_stays l p y h = rw (take-set-le 510 l p y h)

-- a block that differs from a sealed one in exactly one byte is not sealed
pub one_byte : (l : List ℕ) (p y : ℕ) → length l ≡ 512 → AreBytes l → p < 512 → y < 256 → get_or l p 0 ≢ y → sealed l ≡ true → sealed (set l p y) ≡ false
unfolding sealed
one_byte l p y n b h g d s = go (dec_lt p 510)
  where
    go : Dec (p < 510) → eqb (get_or (set l p y) 510 0 + 256 * (get_or (set l p y) (510 + 1) 0 + 256 * 0)) (check_of (set l p y)) ≡ false
    go (yes q) =
        rw (get_or-set_other l p 510 y 0 (omega arith), get_or-set_other l p (510 + 1) y 0 (omega arith))
        (ne_eqb _ _ (λ e. check_moves l p y q (omega arith) (b p) g d (sym e ∙ eqb-true _ _ s)))
    go (no q) =
        let k : check_of (set l p y) ≡ check_of l = check_stays l p y (omega arith) in
        let e : get_or l 510 0 + 256 * (get_or l 511 0 + 0) ≡ check_of l = eqb-true _ _ s in
        rw k (ne_eqb _ _ (λ f. ends (dec_lt p 511) f e))
      where
        ends : Dec (p < 511) → get_or (set l p y) 510 0 + 256 * (get_or (set l p y) 511 0 + 0) ≡ check_of l → get_or l 510 0 + 256 * (get_or l 511 0 + 0) ≡ check_of l → ⊥
        ends (yes r) f e =
            let t : p ≡ 510 = omega arith in
            let d' : get_or l 510 0 ≢ y = rw t at d in
            let f' : get_or (set l 510 y) 510 0 + 256 * (get_or (set l 510 y) 511 0 + 0) ≡ check_of l = rw t at f in
            d' (omega (arith, get_or-set_same l 510 y 0 (omega arith), get_or-set_other l 510 511 y 0 (omega arith)))
        ends (no r) f e =
            let t : p ≡ 511 = omega arith in
            let d' : get_or l 511 0 ≢ y = rw t at d in
            let f' : get_or (set l 511 y) 510 0 + 256 * (get_or (set l 511 y) 511 0 + 0) ≡ check_of l = rw t at f in
            d' (omega (arith, get_or-set_same l 511 y 0 (omega arith), get_or-set_other l 511 510 y 0 (omega arith)))
