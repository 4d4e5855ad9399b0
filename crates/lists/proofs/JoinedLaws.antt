-- Laws of `joined`: lists one behind the other. Assumes nothing.
use Prim.Native.Nat.{ℕ, zero, suc, ◌+◌, ◌-◌, ◌≤◌, ◌<◌}
use mathlib.Core.Path.{◌≡◌, refl, ◌∙◌, ap}
use mathlib.Core.List.{List, ◌++◌}
use native.Mathlib.Omega.{arith}
use native.Mathlib.Decide.{ℕ_discrete, dec_lt}
use lib.ListN.{length, get_or, length-append, get_or-append}
use lib.Seq.{get_or-append-add}
use Rattle.codec.specs.Every.{sum}
use Rattle.lists.specs.Lists.{joined, Sorted}

-- ---- places in ranges of so many each, one behind the other
module _ (g : ℕ → ℕ) where
  -- a range ends where the next starts, or before
  pub range_ends : (i n : ℕ) → i < n → sum i g + g i ≤ sum n g
  unfolding sum
  range_ends i zero h = absurd (omega arith)
  range_ends i (suc n) h = go (ℕ_discrete i n) (range_ends i n)
    where
      go : Dec (i ≡ n) → (i < n → sum i g + g i ≤ sum n g) → sum i g + g i ≤ sum n g + g n
      go (yes e) r = rw e (omega arith)
      go (no d) r = omega (arith, r (omega (arith, d)))

  -- places of two ranges differ
  pub ranges_apart : (i k j l : ℕ) → j < g i → l < g k → sum i g + j ≡ sum k g + l → i ≡ k
  ranges_apart i k j l h q e = go (dec_lt i k) (dec_lt k i)
    where
      go : Dec (i < k) → Dec (k < i) → i ≡ k
      go (yes a) b = absurd (omega (arith, range_ends i k a))
      go (no a) (yes b) = absurd (omega (arith, range_ends k i b))
      go (no a) (no b) = omega (arith, a, b)

  -- a place in a range
  pub record In (n q : ℕ) : Type 0 where
    pub range : ℕ
    pub place : ℕ
    pub known : range < n
    pub within : place < g range
    pub is : q ≡ sum range g + place

  -- every place is in one
  pub located : (n q : ℕ) → q < sum n g → In n q
  unfolding sum
  located zero q h = absurd (omega arith)
  located (suc n) q h = go (dec_lt q (sum n g)) (located n q)
    where
      go : Dec (q < sum n g) → (q < sum n g → In n q) → In (suc n) q
      go (yes l) r = let i = r l in record { range = i.range; place = i.place; known = omega (arith, i.known); within = i.within; is = i.is }
      go (no l) r = record { range = n; place = q - sum n g; known = omega arith; within = omega (arith, l); is = omega (arith, l) }

-- ---- lists in such ranges
module _ (f : ℕ → List ℕ) where
  abbrev size : ℕ → ℕ
  size i = length (f i)

  pub joined_length : (n : ℕ) → length (joined n f) ≡ sum n (λ (i : ℕ). length (f i))
  unfolding joined sum
  joined_length zero = refl
  joined_length (suc n) = rw (length-append, joined_length n)

  pub joined_at : (n i j : ℕ) → i < n → j < length (f i) → get_or (joined n f) (sum i (λ (i : ℕ). length (f i)) + j) 0 ≡ get_or (f i) j 0
  unfolding joined
  joined_at zero i j h l = absurd (omega arith)
  joined_at (suc n) i j h l = go (ℕ_discrete i n) (joined_at n i j)
    where
      go : Dec (i ≡ n) → (i < n → j < length (f i) → get_or (joined n f) (sum i size + j) 0 ≡ get_or (f i) j 0) → get_or (joined n f ++ f n) (sum i size + j) 0 ≡ get_or (f i) j 0
      go (yes e) r = rw (e, ← joined_length n) (get_or-append-add (joined n f) (f n) j 0)
      go (no d) r =
          let b : i < n = omega (arith, d) in
          rw (get_or-append (joined n f) (f n) 0 (sum i size + j) (omega (arith, joined_length n, range_ends size i n b))) (r b l)

  -- what holds of every element of each
  pub joined_each : (P : ℕ → Type 0) (n : ℕ) → ((i j : ℕ) → i < n → j < length (f i) → P (get_or (f i) j 0)) → (q : ℕ) → q < length (joined n f) → P (get_or (joined n f) q 0)
  joined_each P n h q b = let l : q < sum n size = rw joined_length at b in go (located size n q l)
    where
      go : In size n q → P (get_or (joined n f) q 0)
      go u =
          let e : get_or (joined n f) q 0 ≡ get_or (f u.range) u.place 0 = ap (λ (i : ℕ). get_or (joined n f) i 0) u.is ∙ joined_at n u.range u.place u.known u.within in
          rw e (h u.range u.place u.known u.within)

-- ---- a relation from each element to those behind it
module _ (R : ℕ → ℕ → Type 0) (n : ℕ) (f : ℕ → List ℕ) (inside : (i : ℕ) → i < n → Sorted R (f i))
    (across : (i k j l : ℕ) → i < k → k < n → j < length (f i) → l < length (f k) → R (get_or (f i) j 0) (get_or (f k) l 0)) where
  abbrev long : ℕ → ℕ
  long i = length (f i)

  between : (q s : ℕ) → q < s → (u : In long n q) (t : In long n s) → R (get_or (f u.range) u.place 0) (get_or (f t.range) t.place 0)
  between q s h u t = go (dec_lt u.range t.range) (ℕ_discrete u.range t.range)
    where
      go : Dec (u.range < t.range) → Dec (u.range ≡ t.range) → R (get_or (f u.range) u.place 0) (get_or (f t.range) t.place 0)
      go (yes a) d = across u.range t.range u.place t.place a t.known u.within t.within
      go (no a) (yes e) =
          rw e (inside t.range t.known u.place t.place (omega (arith, u.is, t.is, ap (λ (i : ℕ). sum i long) e)) t.within)
      go (no a) (no d) = absurd (omega (arith, a, d, u.is, t.is, u.within, range_ends long t.range u.range (omega (arith, a, d)), t.within))

  pub joined-sorted : Sorted R (joined n f)
  joined-sorted q s h b = let l : s < sum n long = rw joined_length at b in go (located long n q (omega arith)) (located long n s l)
    where
      go : In long n q → In long n s → R (get_or (joined n f) q 0) (get_or (joined n f) s 0)
      go u t =
          let e : get_or (joined n f) q 0 ≡ get_or (f u.range) u.place 0 = ap (λ (i : ℕ). get_or (joined n f) i 0) u.is ∙ joined_at f n u.range u.place u.known u.within in
          let g : get_or (joined n f) s 0 ≡ get_or (f t.range) t.place 0 = ap (λ (i : ℕ). get_or (joined n f) i 0) t.is ∙ joined_at f n t.range t.place t.known t.within in
          rw (e, g) (between q s h u t)
