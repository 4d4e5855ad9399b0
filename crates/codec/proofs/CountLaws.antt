-- Laws of `count_below`: how many numbers below a bound pass a test. Assumes nothing.
use Prim.Native.Nat.{ℕ, zero, suc, ◌+◌, ◌≤◌, ◌<◌}
use mathlib.Core.Path.{◌≡◌, refl, sym, ap, ◌∙◌}
use mathlib.Core.Logic.{⊎_elim}
use mathlib.Core.Bool.{Bool, true, false, true≢false}
use native.Mathlib.Omega.{arith}
use native.Mathlib.Numerals.{add-one}
use native.Mathlib.Nat.{eq-or-lt_of_le}
use native.Mathlib.Decide.{dec_lt}
use mir.Val.{bool_byte}
use Rattle.codec.specs.Every.{count_below}

module _ (p : ℕ → Bool) where
  -- ---- one number more
  pub count-passed : (n : ℕ) → p n ≡ true → count_below (n + 1) p ≡ count_below n p + 1
  unfolding count_below
  count-passed n e = rw (add-one, e) (omega arith)

  pub count_failed : (n : ℕ) → p n ≡ false → count_below (n + 1) p ≡ count_below n p
  unfolding count_below
  count_failed n e = rw (add-one, e)

  -- with the test as a number
  pub count_turn : (n : ℕ) → count_below (n + 1) p ≡ count_below n p + bool_byte (p n)
  count_turn n = go (p n) refl
    where
      go : (t : Bool) → p n ≡ t → count_below (n + 1) p ≡ count_below n p + bool_byte t
      go true e = count-passed n e
      go false e = omega (arith, count_failed n e)

  -- induction, by cases of the test
  pub grow : (P : ℕ → Type 0) → P 0 → ((n : ℕ) → p n ≡ true → P n → P (n + 1)) → ((n : ℕ) → p n ≡ false → P n → P (n + 1)) → (n : ℕ) → P n
  grow P z y f zero = z
  grow P z y f (suc n) = go (p n) refl (grow P z y f n)
    where
      go : (t : Bool) → p n ≡ t → P n → P (suc n)
      go true e h = rw add-one at (y n e h)
      go false e h = rw add-one at (f n e h)

  -- ---- how many
  pub count_none : count_below 0 p ≡ 0
  unfolding count_below
  count_none = refl

  pub count_most : (n : ℕ) → count_below n p ≤ n
  count_most =
      grow (λ (n : ℕ). count_below n p ≤ n) (omega (arith, count_none))
      (λ (n : ℕ) (e : p n ≡ true) (h : count_below n p ≤ n). omega (arith, count-passed n e))
      (λ (n : ℕ) (e : p n ≡ false) (h : count_below n p ≤ n). omega (arith, count_failed n e))

  pub count_grows : (k n : ℕ) → k ≤ n → count_below k p ≤ count_below n p
  count_grows k =
      grow (λ (n : ℕ). k ≤ n → count_below k p ≤ count_below n p) (λ (l : k ≤ 0). let e : k ≡ 0 = omega arith in rw e (omega arith))
      (λ (n : ℕ) (e : p n ≡ true) (h : k ≤ n → count_below k p ≤ count_below n p) (l : k ≤ n + 1). step n (omega (arith, count-passed n e)) h l)
      (λ (n : ℕ) (e : p n ≡ false) (h : k ≤ n → count_below k p ≤ count_below n p) (l : k ≤ n + 1). step n (omega (arith, count_failed n e)) h l)
    where
      step : (n : ℕ) → count_below n p ≤ count_below (n + 1) p → (k ≤ n → count_below k p ≤ count_below n p) → k ≤ n + 1 → count_below k p ≤ count_below (n + 1) p
      step n m h l =
          ⊎_elim (λ (e : k ≡ n + 1). rw e (omega arith)) (λ (b : k < n + 1). omega (arith, h (omega arith))) (eq-or-lt_of_le {n = k} {m = n + 1} l)

  -- a number that passes is one more
  pub count_room : (k n m : ℕ) → p k ≡ true → k < n → count_below n p ≤ m → count_below k p < m
  count_room k n m e l h = omega (arith, count-passed k e, count_grows (k + 1) n (omega arith))

  -- where one fails, not all pass
  pub count_misses : (k n : ℕ) → p k ≡ false → k < n → count_below n p < n
  count_misses k n f =
      grow (λ (n : ℕ). k < n → count_below n p < n) (λ (l : k < 0). absurd (omega arith))
      (λ (n : ℕ) (e : p n ≡ true) (h : k < n → count_below n p < n) (l : k < n + 1).
      ⊎_elim (λ (q : k ≡ n). absurd (true≢false (sym e ∙ (ap p (sym q) ∙ f)))) (λ (b : k < n). omega (arith, h b, count-passed n e)) (eq-or-lt_of_le {n = k} {m = n} (omega arith)))
      (λ (n : ℕ) (e : p n ≡ false) (h : k < n → count_below n p < n) (l : k < n + 1). omega (arith, count_most n, count_failed n e)) n

  -- where all fail, none is counted, and the other way round
  pub count-empty : (n : ℕ) → ((k : ℕ) → k < n → p k ≡ false) → count_below n p ≡ 0
  count-empty =
      grow (λ (n : ℕ). ((k : ℕ) → k < n → p k ≡ false) → count_below n p ≡ 0) (λ h. count_none)
      (λ (n : ℕ) (e : p n ≡ true) g (h : (k : ℕ) → k < n + 1 → p k ≡ false). absurd (true≢false (sym e ∙ h n (omega arith))))
      (λ (n : ℕ) (e : p n ≡ false) (g : ((k : ℕ) → k < n → p k ≡ false) → count_below n p ≡ 0) (h : (k : ℕ) → k < n + 1 → p k ≡ false). omega (arith, count_failed n e, g (λ (k : ℕ) (l : k < n). h k (omega arith))))

  pub none_counted : (k n : ℕ) → count_below n p ≡ 0 → k < n → p k ≡ false
  none_counted k n z l = go (p k) refl
    where
      go : (t : Bool) → p k ≡ t → t ≡ false
      go true e = let h : count_below k p < 0 = count_room k n 0 e l (omega arith) in absurd (omega arith)
      go false e = refl

  -- where all from n on fail, no more than those below n are counted
  pub count-stops : (n m : ℕ) → n ≤ m → ((k : ℕ) → n ≤ k → k < m → p k ≡ false) → count_below m p ≡ count_below n p
  count-stops n =
      grow (λ (m : ℕ). n ≤ m → ((k : ℕ) → n ≤ k → k < m → p k ≡ false) → count_below m p ≡ count_below n p) (λ (l : n ≤ 0) h. let e : n ≡ 0 = omega arith in rw e)
      (λ (m : ℕ) (e : p m ≡ true) g (l : n ≤ m + 1) (h : (k : ℕ) → n ≤ k → k < m + 1 → p k ≡ false).
      ⊎_elim (λ (q : n ≡ m + 1). rw q) (λ (b : n < m + 1). absurd (true≢false (sym e ∙ h m (omega arith) (omega arith)))) (eq-or-lt_of_le {n = n} {m = m + 1} l))
      (λ (m : ℕ) (e : p m ≡ false) (g : n ≤ m → ((k : ℕ) → n ≤ k → k < m → p k ≡ false) → count_below m p ≡ count_below n p) (l : n ≤ m + 1) (h : (k : ℕ) → n ≤ k → k < m + 1 → p k ≡ false).
      ⊎_elim (λ (q : n ≡ m + 1). rw q) (λ (b : n < m + 1). omega (arith, count_failed m e, g (omega arith) (λ (k : ℕ) (x : n ≤ k) (y : k < m). h k x (omega arith)))) (eq-or-lt_of_le {n = n} {m = m + 1} l))

  -- ---- which
  abbrev Found : ℕ → Type 0
  Found n = (k : ℕ) × (k < n) × (p k ≡ true)

  -- one that is counted is there
  pub count-found : (n : ℕ) → 1 ≤ count_below n p → Found n
  count-found =
      grow (λ (n : ℕ). 1 ≤ count_below n p → Found n) (λ h. absurd (omega (arith, count_none)))
      (λ n e h l. (n, omega arith, e)) (λ n e h l. let f = h (omega (arith, count_failed n e)) in (f.0, let g = f.1 in omega arith, f.2))

  -- one that is there is counted
  pub count_has : (k n : ℕ) → k < n → p k ≡ true → 1 ≤ count_below n p
  count_has k n l e = omega (arith, count_room k n (count_below n p) e l (omega arith))

  -- where no two are there, no more than one is counted
  pub count_single : (n : ℕ) → ((i j : ℕ) → i < j → j < n → p i ≡ true → p j ≡ true → ⊥) → count_below n p ≤ 1
  count_single =
      grow (λ (n : ℕ). ((i j : ℕ) → i < j → j < n → p i ≡ true → p j ≡ true → ⊥) → count_below n p ≤ 1) (λ h. omega (arith, count_none))
      (λ n e h d. go n e d (dec_lt 0 (count_below n p)))
      (λ n e h d. omega (arith, count_failed n e, h (λ i j l m. d i j l (omega arith))))
    where
      go : (n : ℕ) → p n ≡ true → ((i j : ℕ) → i < j → j < n + 1 → p i ≡ true → p j ≡ true → ⊥) → Dec (0 < count_below n p) → count_below (n + 1) p ≤ 1
      go n e d (yes l) = let f = count-found n (omega (arith, l)) in absurd (d f.0 n f.1 (omega arith) f.2 e)
      go n e d (no l) = omega (arith, l, count-passed n e)

-- two tests that agree count the same
pub count_same : (n : ℕ) (p q : ℕ → Bool) → ((k : ℕ) → k < n → p k ≡ q k) → count_below n p ≡ count_below n q
unfolding count_below
count_same zero p q h = refl
count_same (suc n) p q h = rw (h n (omega arith), count_same n p q (λ (k : ℕ) (l : k < n). h k (omega arith)))
