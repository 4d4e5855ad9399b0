-- Laws of `passing`: the numbers below a bound that pass a test, in rising order. Assumes nothing.
use Prim.Native.Nat.{ℕ, ◌+◌, ◌<◌}
use mathlib.Core.Path.{◌≡◌, refl, ◌∙◌, sym, ap}
use mathlib.Core.Logic.{⊎_elim}
use mathlib.Core.List.{List, [], ◌∷◌, ◌++◌}
use mathlib.Core.Bool.{Bool, true, false}
use native.Mathlib.Omega.{arith}
use native.Mathlib.Numerals.{add-one}
use native.Mathlib.Nat.{eq-or-lt_of_le}
use lib.ListN.{length, get_or, length-append, get_or-append}
use lib.Seq.{get_or_at}
use Rattle.codec.specs.Every.{count_below}
use Rattle.codec.proofs.CountLaws.{grow, count_none, count-passed, count_failed, count_room}
use Rattle.lists.specs.Lists.{passing}

-- every element is below n and passes, and is below those behind it
pub record Rising (p : ℕ → Bool) (n : ℕ) (l : List ℕ) : Type 0 where
  pub below : (i : ℕ) → i < length l → get_or l i 0 < n
  pub passes : (i : ℕ) → i < length l → p (get_or l i 0) ≡ true
  pub rises : (i j : ℕ) → i < j → j < length l → get_or l i 0 < get_or l j 0

rising_more : (p : ℕ → Bool) (n : ℕ) (l : List ℕ) → p n ≡ true → Rising p n l → Rising p (n + 1) (l ++ (n ∷ []))
rising_more p n l e h =
    record {
      below = λ i b. each (λ (x : ℕ). x < n + 1) i (rw length-append at b) (omega arith) (λ s. omega (arith, h.below i s));
      passes = λ i b. each (λ (x : ℕ). p x ≡ true) i (rw length-append at b) e (h.passes i);
      rises = λ i j g b.
          let c : j < length l + 1 = rw length-append at b in
          rw (get_or-append l (n ∷ []) 0 i (omega arith))
          (each (λ (x : ℕ). get_or l i 0 < x) j c (h.below i (omega arith)) (h.rises i j g));
    }
  where
    each : (P : ℕ → Type 0) (i : ℕ) → i < length l + 1 → P n → (i < length l → P (get_or l i 0)) → P (get_or (l ++ (n ∷ [])) i 0)
    each P i b z s =
        ⊎_elim (λ (q : i ≡ length l). rw (get_or_at l n [] 0 i (sym q)) z) (λ (q : i < length l). rw (get_or-append l (n ∷ []) 0 i q) (s q))
        (eq-or-lt_of_le {n = i} {m = length l} (omega arith))

module _ (p : ℕ → Bool) where
  -- ---- one number more
  pub passing-passed : (n : ℕ) → p n ≡ true → passing (n + 1) p ≡ passing n p ++ (n ∷ [])
  unfolding passing
  passing-passed n e = rw (add-one, e)

  pub passing_failed : (n : ℕ) → p n ≡ false → passing (n + 1) p ≡ passing n p
  unfolding passing
  passing_failed n e = rw (add-one, e)

  pub passing_none : passing 0 p ≡ []
  unfolding passing
  passing_none = refl

  pub passing-length : (n : ℕ) → length (passing n p) ≡ count_below n p
  passing-length =
      grow p (λ (n : ℕ). length (passing n p) ≡ count_below n p) (rw (passing_none, count_none p))
      (λ (n : ℕ) (e : p n ≡ true) (h : length (passing n p) ≡ count_below n p). rw (passing-passed n e, count-passed p n e, length-append) (omega arith))
      (λ (n : ℕ) (e : p n ≡ false) (h : length (passing n p) ≡ count_below n p). rw (passing_failed n e, count_failed p n e) h)

  -- each below n, passing, and below the next
  pub passing-rises : (n : ℕ) → Rising p n (passing n p)
  passing-rises =
      grow p (λ (n : ℕ). Rising p n (passing n p))
      (rw passing_none (record { below = λ i l. absurd (omega arith); passes = λ i l. absurd (omega arith); rises = λ i j h l. absurd (omega arith) }))
      (λ n e h. rw (passing-passed n e) (rising_more p n (passing n p) e h))
      (λ n e h. rw (passing_failed n e) (record { below = λ i l. omega (arith, h.below i l); passes = h.passes; rises = h.rises }))

  -- a number that passes stands behind those before it
  pub passing_at : (k n : ℕ) → p k ≡ true → k < n → get_or (passing n p) (count_below k p) 0 ≡ k
  passing_at k n e =
      grow p (λ (n : ℕ). k < n → get_or (passing n p) (count_below k p) 0 ≡ k) (λ l. absurd (omega arith))
      (λ n f h l. rw (passing-passed n f) (⊎_elim (λ (q : k ≡ n). rw q (get_or_at (passing n p) n [] 0 (count_below n p) (passing-length n)))
      (λ (q : k < n). rw (get_or-append (passing n p) (n ∷ []) 0 (count_below k p) (within n q)) (h q)) (eq-or-lt_of_le {n = k} {m = n} (omega arith))))
      (λ n f h l. rw (passing_failed n f) (⊎_elim (λ (q : k ≡ n). absurd (clash n q f)) h (eq-or-lt_of_le {n = k} {m = n} (omega arith)))) n
    where
      within : (n : ℕ) → k < n → count_below k p < length (passing n p)
      within n q = omega (arith, passing-length n, count_room p k n (count_below n p) e q (omega arith))

      clash : (n : ℕ) → k ≡ n → p n ≡ false → ⊥
      clash n q f = let z : true ≡ false = sym e ∙ (ap p q ∙ f) in let y : ◌≡◌ {A = ℕ} 0 1 = cc in omega arith
