-- Round trips of little-endian numbers, over the width. Assumes nothing.
use Prim.Native.Nat.{ℕ, zero, suc, ◌+◌, ◌*◌, ◌/◌, ◌%◌, ◌^◌, ◌≤◌, ◌<◌}
use mathlib.Core.Path.{◌≡◌, refl, ◌∙◌, sym, ap}
use mathlib.Core.List.{List, [], ◌∷◌, ◌++◌, append_assoc, append-nil}
use native.Mathlib.Omega.{arith}
use native.Mathlib.Numerals.{add-one, one-add}
use native.Mathlib.Nat.{pow-suc, zero-mul, suc-mul, add_comm}
use lib.ListN.{length, get_or, take, drop, length-append}
use lib.Seq.{drop-cons, get_or-drop, take_at, drop_at}
use Rattle.codec.specs.Num.{bytes_of, num_at, num_of, nums_of, nums_at, AreBytes}
use Rattle.codec.specs.Splice.{splice}
use Rattle.codec.proofs.SpliceLaws.{splice_more}

pub bytes_length : (k x : ℕ) → length (bytes_of k x) ≡ k
bytes_length zero x = refl
bytes_length (suc k) x = ap suc (bytes_length k (x / 256))

-- a number that fits comes back
pub back : (k x : ℕ) → x < 256 ^ k → num_of (bytes_of k x) ≡ x
back zero x h = omega arith
back (suc k) x h =
    let g : x < 256 ^ k * 256 = rw pow-suc at h in
    omega (arith, back k (x / 256) (omega arith))

-- bytes come back
pub forth : (l : List ℕ) → AreBytes l → bytes_of (length l) (num_of l) ≡ l
forth [] h = refl
forth (b ∷ l) h =
    let g : b < 256 = h 0 in
    let e : (b + 256 * num_of l) % 256 ≡ b = omega arith in
    let q : (b + 256 * num_of l) / 256 ≡ num_of l = omega arith in
    rw (e, q, forth l (λ (i : ℕ). h (suc i)))

-- the number at a place is the number of the part there
pub part : (k : ℕ) (l : List ℕ) (at : ℕ) → at + k ≤ length l → num_at k l at ≡ num_of (take k (drop at l))
part zero l at h = refl
part (suc k) l at h =
    let i : at < length l = omega arith in
    rw (drop-cons l at 0, part k l (at + 1) (omega arith), add-one)

pub nums_length : (k n : ℕ) (l : List ℕ) → length (nums_of k n l) ≡ n * k
nums_length k zero l = sym (zero-mul k)
nums_length k (suc n) l = rw (length-append, bytes_length, nums_length k n, suc-mul, add_comm k)

-- one number more
pub nums_more : (k n : ℕ) (l : List ℕ) → nums_of k (n + 1) l ≡ nums_of k n l ++ bytes_of k (get_or l n 0)
nums_more k n l = rw add-one (go n l)
  where
    go : (n : ℕ) (l : List ℕ) → nums_of k (suc n) l ≡ nums_of k n l ++ bytes_of k (get_or l n 0)
    go zero l = append-nil _
    go (suc n) l =
        let e : get_or (drop 1 l) n 0 ≡ get_or l (suc n) 0 = get_or-drop 1 l n 0 ∙ rw one-add in
        rw (append_assoc, ← e, ← go n (drop 1 l))

-- a turn of a loop that writes numbers of k bytes one after the other
pub nums_turn : (k : ℕ) (d₀ c d d' : List ℕ) (at i n : ℕ) → at + i * k ≤ length d₀ → at + i * k ≡ n
    → d ≡ splice d₀ at (nums_of k i c) → d' ≡ splice d n (bytes_of k (get_or c i 0)) → d' ≡ splice d₀ at (nums_of k (i + 1) c)
nums_turn k d₀ c d d' at i n f e p q =
    let l : length (nums_of k i c) ≡ i * k = nums_length k i c in
    q ∙ rw (p, nums_more k i c) (splice_more d₀ at (nums_of k i c) (omega arith) n (bytes_of k (get_or c i 0)) (omega arith))

-- ---- what is written is read back
pub num_back : (k x n : ℕ) (p q : List ℕ) → length p ≡ n → x < 256 ^ k → num_at k (p ++ (bytes_of k x ++ q)) n ≡ x
num_back k x n p q e h =
    let b : length (bytes_of k x) ≡ k = bytes_length k x in
    part k (p ++ (bytes_of k x ++ q)) n (simp length-append (omega arith)) ∙ rw (drop_at p (bytes_of k x ++ q) n e, take_at (bytes_of k x) q k b, back k x h)

-- every number of a list is below m
abbrev pub Below : ℕ → List ℕ → Type 0
Below m [] = Unit
Below m (x ∷ l) = (x < m) × Below m l

-- by the place
pub below_of : (m : ℕ) (l : List ℕ) → ((i : ℕ) → i < length l → get_or l i 0 < m) → Below m l
below_of m [] h = tt
below_of m (x ∷ l) h = (h 0 (omega arith), below_of m l (λ (i : ℕ) (g : i < length l). h (suc i) (omega arith)))

pub of_below : (m : ℕ) (l : List ℕ) → 0 < m → Below m l → (i : ℕ) → get_or l i 0 < m
of_below m [] z h i = z
of_below m (x ∷ l) z h zero = h.0
of_below m (x ∷ l) z h (suc i) = of_below m l z h.1 i

pub nums_back : (k : ℕ) (c : List ℕ) (n : ℕ) (p q : List ℕ) → length p ≡ n → Below (256 ^ k) c → nums_at k (length c) (p ++ (nums_of k (length c) c ++ q)) n ≡ c
nums_back k [] n p q e h = refl
nums_back k (x ∷ c) n p q e h =
    let b : length (p ++ bytes_of k x) ≡ n + k = simp (length-append, bytes_length) (omega arith) in
    rw (
      append_assoc (bytes_of k x) (nums_of k (length c) c) q,
      num_back k x n p (nums_of k (length c) c ++ q) e h.0,
      ← append_assoc p (bytes_of k x) (nums_of k (length c) c ++ q),
      nums_back k c (n + k) (p ++ bytes_of k x) q b h.1,
    )

-- number i of n numbers of k bytes each
pub nums_get : (k n : ℕ) (l : List ℕ) (at i : ℕ) → i < n → get_or (nums_at k n l at) i 0 ≡ num_at k l (at + i * k)
nums_get k zero l at i h = absurd (omega arith)
nums_get k (suc n) l at zero h = let e : at + 0 * k ≡ at = rw zero-mul (omega arith) in rw e
nums_get k (suc n) l at (suc i) h =
    let e : at + k + i * k ≡ at + suc i * k = rw suc-mul (omega arith) in
    nums_get k n l (at + k) i (omega arith) ∙ rw e
