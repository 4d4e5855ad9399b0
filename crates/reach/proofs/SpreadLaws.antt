-- Laws of spreading, as the code meets them. Assumes nothing.
use Prim.Native.Nat.{ℕ, zero, suc, ◌≤◌, ◌<◌}
use mathlib.Core.Path.{◌≡◌, refl, ◌∙◌, sym}
use mathlib.Core.List.{List}
use mathlib.Core.Bool.{Bool, true, false, cond}
use native.Mathlib.Omega.{arith}
use borrow.Author.Tests.{lt-ltb, le-ltb}
use lib.Dec.{ltb}
use lib.ListN.{length, get_or, set, length-set, get_or-eq_default}
use Rattle.codec.proofs.EveryLaws.{every_fails}
use Rattle.reset.specs.Reach.{first, joins, unseen, spread_by, is_seen, reached, zero_alone, every_reached}
use Rattle.reset.proofs.ReachLaws.{first_holds, joins-unseen, unseen-set}

-- ---- the first at which a test holds
pub first_at : (n : ℕ) (p : ℕ → Bool) (i : ℕ) → i < n → ((k : ℕ) → k < i → p k ≡ false) → p i ≡ true → first n p ≡ i
unfolding first
first_at zero p i h f e = absurd (omega arith)
first_at (suc n) p zero h f e = rw e
first_at (suc n) p (suc i) h f e =
    let z : p 0 ≡ false = f 0 (omega arith) in
    rw (z, first_at n (λ (k : ℕ). p (suc k)) i (omega arith) (λ (k : ℕ) (l : k < i). f (suc k) (omega arith)) e)

pub first_none : (n : ℕ) (p : ℕ → Bool) → ((k : ℕ) → k < n → p k ≡ false) → first n p ≡ n
unfolding first
first_none zero p f = refl
first_none (suc n) p f =
    let z : p 0 ≡ false = f 0 (omega arith) in
    rw (z, first_none n (λ (k : ℕ). p (suc k)) (λ (k : ℕ) (l : k < n). f (suc k) (omega arith)))

-- ---- one call of the recursion
module _ (m : List (List ℕ)) (seen : List ℕ) where
  -- nobody joins: that was all
  pub spread_none : (k : ℕ) → 8 ≤ first 8 (joins m seen) → spread_by k m seen ≡ seen
  unfolding spread_by
  spread_none zero h = refl
  spread_none (suc k) h = rw (le-ltb (first 8 (joins m seen)) 8 h)

  spread_more : length seen ≡ 8 → first 8 (joins m seen) < 8 → reached m seen ≡ reached m (set seen (first 8 (joins m seen)) 1)
  unfolding spread_by
  spread_more n h =
      let e : get_or seen (first 8 (joins m seen)) 0 ≡ 0 = joins-unseen m seen _ (first_holds 8 (joins m seen) h) in
      rw (unseen-set m seen (first 8 (joins m seen)) (omega arith) e, lt-ltb (first 8 (joins m seen)) 8 h)

  -- station j joins: fewer are left, and what can be reached is the same
  module _ (j : ℕ) (n : length seen ≡ 8) (e : j ≡ first 8 (joins m seen)) (h : j < 8) where
    pub less : unseen (set seen j 1) < unseen seen
    less =
        let z : get_or seen j 0 ≡ 0 = joins-unseen m seen j (rw e (first_holds 8 (joins m seen) (omega arith))) in
        omega (arith, unseen-set m seen j (omega arith) z)

    pub more : reached m (set seen j 1) ≡ reached m seen
    more = rw e (sym (spread_more n (omega arith)))

-- ---- no station above the eight is reached
spread_length : (k : ℕ) (m : List (List ℕ)) (seen : List ℕ) → length (spread_by k m seen) ≡ length seen
unfolding spread_by
spread_length zero m seen = refl
spread_length (suc k) m seen = go (ltb (first 8 (joins m seen)) 8) (spread_length k m (set seen (first 8 (joins m seen)) 1))
  where
    go : (b : Bool) → length (spread_by k m (set seen (first 8 (joins m seen)) 1)) ≡ length (set seen (first 8 (joins m seen)) 1)
        → length (cond b (spread_by k m (set seen (first 8 (joins m seen)) 1)) seen) ≡ length seen
    go true e = e ∙ simp length-set
    go false e = refl

pub not-above : (n : ℕ) (m : List (List ℕ)) → 8 < n → every_reached n m ≡ false
unfolding every_reached
not-above n m h =
    let l : length (reached m zero_alone) ≡ 8 = spread_length (unseen zero_alone) m zero_alone in
    every_fails n (is_seen (reached m zero_alone)) 8 h (rw (get_or-eq_default (reached m zero_alone) 0 {n = 8} (omega arith)))
