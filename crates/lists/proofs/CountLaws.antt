-- How often a number stands in a list: members, and lists in which none stands twice. Assumes nothing.
use Prim.Native.Nat.{ℕ, zero, suc, ◌+◌, ◌≤◌, ◌<◌}
use mathlib.Core.Path.{◌≡◌, refl, ◌∙◌, sym, ap}
use mathlib.Core.Logic.{◌↔◌, ⊎_elim}
use mathlib.Core.List.Memᴰ
use mathlib.Core.List.{List, [], ◌∷◌, Memᴰ}
use mathlib.Core.Bool.{Bool, true, false, true≢false}
use native.Mathlib.Omega.{arith}
use native.Mathlib.Decide.{ℕ_discrete}
use native.Mathlib.Nat.{eq-or-lt_of_le}
use lib.ListN.{length, get_or}
use borrow.Author.Tests.{eq-eqb, ne_eqb}
use Rattle.codec.proofs.CountLaws.{grow}
use Rattle.lists.specs.Lists.{passing, is, count}
use Rattle.lists.proofs.SumLaws.{sum_none, sum-passed, sum_failed}

pub is_itself : (x : ℕ) → is x x ≡ 1
is_itself x = rw (eq-eqb x x refl)

pub is_other : (x y : ℕ) → (x ≡ y → ⊥) → is x y ≡ 0
is_other x y d = rw (ne_eqb x y d)

-- ---- where it stands
pub record Stands (x : ℕ) (l : List ℕ) : Type 0 where
  pub place : ℕ
  pub within : place < length l
  pub there : get_or l place 0 ≡ x

pub find : (x : ℕ) (l : List ℕ) → 1 ≤ count x l → Stands x l
find x [] h = absurd (omega arith)
find x (y ∷ l) h = go (ℕ_discrete x y) (find x l)
  where
    go : Dec (x ≡ y) → (1 ≤ count x l → Stands x l) → Stands x (y ∷ l)
    go (yes e) f = record { place = 0; within = omega arith; there = sym e }
    go (no d) f = let w = f (omega (arith, is_other x y d)) in record { place = suc w.place; within = omega (arith, w.within); there = w.there }

pub counted : (l : List ℕ) (i : ℕ) → i < length l → 1 ≤ count (get_or l i 0) l
counted [] i h = absurd (omega arith)
counted (y ∷ l) zero h = omega (arith, is_itself y)
counted (y ∷ l) (suc i) h = omega (arith, counted l i (omega arith))

-- none stands in two places where each is counted once at most, and the other way round
abbrev pub Once : List ℕ → Type 0
Once l = (i j : ℕ) → i < length l → j < length l → get_or l i 0 ≡ get_or l j 0 → i ≡ j

pub counts-once : (l : List ℕ) → ((x : ℕ) → count x l ≤ 1) → Once l
counts-once [] c i j h k e = absurd (omega arith)
counts-once (y ∷ l) c zero zero h k e = refl
counts-once (y ∷ l) c zero (suc j) h k e = absurd (omega (arith, c y, is_itself y, counted l j (omega arith), ap (λ (z : ℕ). count z l) e))
counts-once (y ∷ l) c (suc i) zero h k e = absurd (omega (arith, c y, is_itself y, counted l i (omega arith), ap (λ (z : ℕ). count z l) e))
counts-once (y ∷ l) c (suc i) (suc j) h k e = ap suc (counts-once l (λ x. omega (arith, c x)) i j (omega arith) (omega arith) e)

pub once-counts : (l : List ℕ) → Once l → (x : ℕ) → count x l ≤ 1
once-counts [] o x = omega arith
once-counts (y ∷ l) o x = go (ℕ_discrete x y) (ℕ_discrete (count x l) 0) (once-counts l (λ i j h k e. same i j (o (suc i) (suc j) (omega arith) (omega arith) e)) x)
  where
    same : (i j : ℕ) → suc i ≡ suc j → i ≡ j
    same i j e = omega arith

    go : Dec (x ≡ y) → Dec (count x l ≡ 0) → count x l ≤ 1 → is x y + count x l ≤ 1
    go (no d) z ih = omega (arith, is_other x y d)
    go (yes e) (yes z) ih = let w : is x y ≡ 1 = rw e (is_itself y) in omega arith
    go (yes e) (no z) ih = let w = find x l (omega (arith, z)) in absurd (omega (arith, o 0 (suc w.place) (omega arith) (omega (arith, w.within)) (sym e ∙ sym w.there)))

-- ---- members
pub member_counted : (x : ℕ) (l : List ℕ) → Memᴰ x l ↔ (1 ≤ count x l)
member_counted x l = (there l, here l)
  where
    there : (l : List ℕ) → Memᴰ x l → 1 ≤ count x l
    there [] m = absurd (Memᴰ.not-nil m)
    there (y ∷ l) m = ⊎_elim (λ (e : x ≡ y). let w : is x y ≡ 1 = rw e (is_itself y) in omega arith) (λ (n : Memᴰ x l). omega (arith, there l n)) (Memᴰ.cases_cons m)

    here : (l : List ℕ) → 1 ≤ count x l → Memᴰ x l
    here [] h = absurd (omega arith)
    here (y ∷ l) h = go (ℕ_discrete x y) (here l)
      where
        go : Dec (x ≡ y) → (1 ≤ count x l → Memᴰ x l) → Memᴰ x (y ∷ l)
        go (yes e) r = Memᴰ.head e
        go (no d) r = Memᴰ.append_right (y ∷ []) (r (omega (arith, is_other x y d)))

-- ---- numbers that pass: once each
module _ (p : ℕ → Bool) (x : ℕ) where
  count-beyond : (n : ℕ) → n ≤ x → count x (passing n p) ≡ 0
  count-beyond =
      grow p (λ (n : ℕ). n ≤ x → count x (passing n p) ≡ 0) (λ h. sum_none (is x) p)
      (λ n e g h. omega (arith, sum-passed (is x) p n e, g (omega arith), is_other x n (λ z. omega arith)))
      (λ n e g h. omega (arith, sum_failed (is x) p n e, g (omega arith)))

  pub count-passing : (n : ℕ) → p x ≡ true → x < n → count x (passing n p) ≡ 1
  count-passing n q =
      grow p (λ (n : ℕ). x < n → count x (passing n p) ≡ 1) (λ h. absurd (omega arith))
      (λ n e g h. ⊎_elim (λ (z : x ≡ n). omega (arith, sum-passed (is x) p n e, count-beyond n (omega arith), ap (is x) z, is_itself x))
      (λ (l : x < n). omega (arith, sum-passed (is x) p n e, g l, is_other x n (λ z. omega arith))) (eq-or-lt_of_le {n = x} {m = n} (omega arith)))
      (λ n e g h. ⊎_elim (λ (z : x ≡ n). absurd (true≢false (sym q ∙ (ap p z ∙ e)))) (λ (l : x < n). omega (arith, sum_failed (is x) p n e, g l)) (eq-or-lt_of_le {n = x} {m = n} (omega arith))) n

  pub count-not-passing : (n : ℕ) → p x ≡ false → count x (passing n p) ≡ 0
  count-not-passing n q =
      grow p (λ (n : ℕ). count x (passing n p) ≡ 0) (sum_none (is x) p)
      (λ n e g. omega (arith, sum-passed (is x) p n e, g, is_other x n (λ z. true≢false (sym e ∙ (ap p (sym z) ∙ q)))))
      (λ n e g. omega (arith, sum_failed (is x) p n e, g)) n
