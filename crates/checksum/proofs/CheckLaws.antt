-- Laws of the block check. Assumes nothing.
use Prim.Native.Nat.{ℕ, zero, suc, ◌+◌, ◌*◌, ◌%◌, ◌^◌, ◌≤◌, ◌<◌}
use mathlib.Core.Path.{◌≡◌, refl, ◌∙◌, sym, ap}
use mathlib.Core.List.{List, [], ◌∷◌, ◌++◌, append-nil}
use native.Mathlib.Omega.{arith}
use native.Mathlib.Numerals.{add-one}
use native.Mathlib.Nat.{mul-le-mul}
use lib.ListN.{length, get_or, take, drop, length-take, length-drop, length-append, drop_of_length-le, take-append-drop}
use lib.Seq.{take-suc, take_all, take_at, take-add, length-take-le}
use mathlib.Core.Bool.{Bool, true, false, ◌&&◌}
use lib.Dec.{eqb}
use borrow.Author.Tests.{eqb-true, eq-eqb}
use Rattle.codec.specs.Num.{AreBytes, bytes_of, num_at}
use Rattle.codec.specs.Splice.{splice}
use Rattle.codec.specs.Every.{all_zero, blank}
use Rattle.checksum.specs.Check.{weighted, check_of, sealed, seal_of}
use Rattle.codec.proofs.Fronts.{bytes_at_lem}
use Rattle.codec.proofs.NumLaws.{num_back}
use Rattle.codec.proofs.EveryLaws.{zero_part}

pub weighted-append : (k : ℕ) (a b : List ℕ) → weighted k (a ++ b) ≡ weighted k a + weighted (k + length a) b
unfolding weighted
weighted-append k [] b = let e : k + 0 ≡ k = omega arith in rw e (omega arith)
weighted-append k (x ∷ a) b =
    let e : k + 1 + length a ≡ k + suc (length a) = omega arith in
    let h : weighted (k + 1) (a ++ b) ≡ weighted (k + 1) a + weighted (k + suc (length a)) b = rw e at (weighted-append (k + 1) a b) in
    omega arith

-- one byte more
pub weighted_more : (l : List ℕ) (i : ℕ) → i < length l → weighted 1 (take (i + 1) l) ≡ weighted 1 (take i l) + (i + 1) * get_or l i 0
unfolding weighted
weighted_more l i h =
    let n : length (take i l) ≡ i = length-take-le i l (omega arith) in
    let e : 1 + i ≡ i + 1 = omega arith in
    rw (add-one i, take-suc l i 0, weighted-append, n, ← add-one i, e) (omega arith)

-- a byte at one of 510 places counts for little
pub weight_small : (i x : ℕ) → i < 510 → x < 256 → (i + 1) * x ≤ 130050
weight_small i x h g = mul-le-mul {n₁ = i + 1} {m₁ = x} {n₂ = 510} {m₂ = 255} (omega arith) (omega arith)

pub weighted_none : weighted 1 [] ≡ 0
unfolding weighted
weighted_none = refl

-- the check reads the first 510 bytes alone
pub check_front : (l : List ℕ) → check_of (take 510 l) ≡ check_of l
unfolding check_of
check_front l = ap (λ (x : List ℕ). (1 + weighted 1 x) % 65521) (take_all 510 (take 510 l) (rw length-take (omega arith)))

-- the check is written behind the first 510 bytes
pub sealed_at : (l d : List ℕ) (x : ℕ) → length l ≡ 512 → x ≡ check_of l → d ≡ splice l 510 (bytes_of 2 x) → d ≡ seal_of (take 510 l)
unfolding seal_of
sealed_at l d x n e f =
    let z : drop 512 l ≡ [] = drop_of_length-le l {i = 512} (omega arith) in
    f ∙ rw (e, check_front, z)

-- what is sealed is the first 510 bytes with their check
pub sealed_is : (l : List ℕ) → AreBytes l → length l ≡ 512 → sealed l ≡ true → seal_of (take 510 l) ≡ l
unfolding sealed seal_of
sealed_is l b n h =
    let e : num_at 2 l 510 ≡ check_of l = eqb-true _ _ h in
    let f : bytes_of 2 (check_of l) ≡ take 2 (drop 510 l) = rw (← e) (bytes_at_lem 2 l 510 b (omega arith)) in
    let g : take 2 (drop 510 l) ≡ drop 510 l = take_all 2 (drop 510 l) (rw length-drop (omega arith)) in
    rw (check_front, f, g) (take-append-drop 510 l)

-- the check fits two bytes
check_small : (l : List ℕ) → check_of l < 65536
unfolding check_of
check_small l = omega arith

-- 510 bytes with their check are a sealed block
pub seal_length : (p : List ℕ) → length p ≡ 510 → length (seal_of p) ≡ 512
unfolding seal_of
seal_length p n = simp length-append (omega arith)

pub seal_seals : (p : List ℕ) → length p ≡ 510 → sealed (seal_of p) ≡ true
unfolding sealed seal_of
seal_seals p n =
    let small : check_of p < 256 ^ 2 = check_small p in
    let t : take 510 (p ++ bytes_of 2 (check_of p)) ≡ p = take_at p (bytes_of 2 (check_of p)) 510 n in
    let e : check_of (p ++ bytes_of 2 (check_of p)) ≡ check_of p = sym (check_front (p ++ bytes_of 2 (check_of p))) ∙ ap check_of t in
    let f : num_at 2 (p ++ (bytes_of 2 (check_of p) ++ [])) 510 ≡ check_of p = num_back 2 (check_of p) 510 p [] n small in
    eq-eqb _ _ ((rw append-nil at f) ∙ sym e)

-- ---- a block with zeros from byte 96 on
zeros_weigh : (k n : ℕ) → weighted k (blank n) ≡ 0
unfolding weighted blank
zeros_weigh k zero = refl
zeros_weigh k (suc n) = omega (arith, zeros_weigh (k + 1) n)

-- zeros behind the first n bytes count for nothing
pub zeros-behind : (l : List ℕ) (n m : ℕ) → n + m ≤ length l → all_zero (take m (drop n l)) ≡ true → weighted 1 (take (n + m) l) ≡ weighted 1 (take n l)
zeros-behind l n m h z =
    let e : take m (drop n l) ≡ blank m = zero_part l m n h z in
    rw (take-add n m l, weighted-append, e, zeros_weigh) (omega arith)

-- the check of a block by its first 496 bytes, where zeros follow them
pub sealed-short : (l : List ℕ) (w : ℕ) → 510 ≤ length l → w ≡ weighted 1 (take 496 l)
    → (all_zero (take 14 (drop 496 l)) && eqb (num_at 2 l 510) ((1 + w) % 65521)) ≡ (all_zero (take 14 (drop 496 l)) && sealed l)
unfolding sealed check_of
sealed-short l w n e = go (all_zero (take 14 (drop 496 l))) refl
  where
    go : (t : Bool) → all_zero (take 14 (drop 496 l)) ≡ t
        → (t && eqb (num_at 2 l 510) ((1 + w) % 65521)) ≡ (t && eqb (num_at 2 l 510) ((1 + weighted 1 (take 510 l)) % 65521))
    go true z = rw (e, zeros-behind l 496 14 (omega arith) z)
    go false z = refl
