-- The spreading test is exact: it holds just when every station below n has a path from station 0. Assumes nothing.
use Prim.Native.Nat.{ℕ, zero, suc, ◌+◌, ◌≤◌, ◌<◌}
use mathlib.Core.Path.{◌≡◌, refl, sym, ◌∙◌}
use mathlib.Core.List.{List, [], ◌∷◌}
use mathlib.Core.Bool.{Bool, true, false, not, ◌&&◌}
use native.Mathlib.Omega.{arith}
use native.Mathlib.Decide.{ℕ_discrete}
use lib.Dec.{eqb, ltb}
use lib.ListN.{length, get_or, set, length-set}
use lib.Seq.{get_or-set_other}
use borrow.Author.Tests.{eqb-true, eq-eqb, ltb-true, ltb-false, not-true, not-false}
use Rattle.codec.specs.Every.{every}
use Rattle.codec.proofs.EveryLaws.{both, every_at, every_of, every_fails}
use Rattle.reset.specs.Reach.{linked, Path, here, further, Reached, is_seen, apart, joins, first, unseen, spread_by, reached, zero_alone, every_reached}
use Rattle.reset.proofs.Views.{all_same}
use Rattle.reset.proofs.Cases.{by_test, by_dec, clash}

no_both : {A : Type 0} (b : Bool) → b ≡ true → b ≡ false → A
no_both b p q = clash (sym p ∙ q)

-- ---- the first at which a test holds
pub first_holds : (n : ℕ) (p : ℕ → Bool) → first n p < n → p (first n p) ≡ true
unfolding first
first_holds zero p h = absurd (omega arith)
first_holds (suc n) p h =
    by_test (p 0) (λ e. rw (e, e))
    (λ e. let g : suc (first n (λ (k : ℕ). p (suc k))) < suc n = rw e at h in rw e (first_holds n (λ (k : ℕ). p (suc k)) (omega arith)))

pub first_past : (n : ℕ) (p : ℕ → Bool) → n ≤ first n p → (k : ℕ) → k < n → p k ≡ false
unfolding first
first_past zero p h k l = absurd (omega arith)
first_past (suc n) p h k l =
    by_test (p 0) (λ e. let z : suc n ≤ 0 = rw e at h in absurd (omega arith))
    (λ e. let g : suc n ≤ suc (first n (λ (i : ℕ). p (suc i))) = rw e at h in at e k l (first_past n (λ (i : ℕ). p (suc i)) (omega arith)))
  where
    at : p 0 ≡ false → (k : ℕ) → k < suc n → ((i : ℕ) → i < n → p (suc i) ≡ false) → p k ≡ false
    at e zero l f = e
    at e (suc k) l f = f k (omega arith)

-- ---- stations that join
pub joins-unseen : (m : List (List ℕ)) (seen : List ℕ) (j : ℕ) → joins m seen j ≡ true → get_or seen j 0 ≡ 0
unfolding joins
joins-unseen m seen j h = eqb-true _ _ (both (eqb (get_or seen j 0) 0) _ h).0

-- a number at which a test fails
pub every_finds : (n : ℕ) (p : ℕ → Bool) → every n p ≡ false → (i : ℕ) × (i < n) × (p i ≡ false)
unfolding every
every_finds zero p e = clash e
every_finds (suc n) p e =
    by_test (every n p) (λ h. (n, omega arith, rw h at e)) (λ h. let t = every_finds n p h in (t.0, let l = t.1 in omega arith, t.2))

-- one that joins has a link from one that is reached
joins_from : (m : List (List ℕ)) (seen : List ℕ) (j : ℕ) → joins m seen j ≡ true → (i : ℕ) × (is_seen seen i ≡ true) × (linked m i j ≡ true)
unfolding joins apart
joins_from m seen j h =
    let t = every_finds 8 (λ (i : ℕ). not (is_seen seen i && linked m i j)) (not-true _ (both (eqb (get_or seen j 0) 0) _ h).1) in
    let r = both (is_seen seen t.0) (linked m t.0 j) (not-false _ t.2) in
    (t.0, r.0, r.1)

-- one that is not reached, and has a link from one that is, joins
joins_to : (m : List (List ℕ)) (seen : List ℕ) (i j : ℕ) → i < 8 → is_seen seen i ≡ true → linked m i j ≡ true → get_or seen j 0 ≡ 0 → joins m seen j ≡ true
unfolding joins apart
joins_to m seen i j l p q e =
    let f : every 8 (λ (k : ℕ). not (is_seen seen k && linked m k j)) ≡ false
    = every_fails 8 (λ (k : ℕ). not (is_seen seen k && linked m k j)) i l (rw (p, q)) in
    rw (f, eq-eqb (get_or seen j 0) 0 e)

-- ---- what is kept as they join
module _ (m : List (List ℕ)) where
  -- what holds of those in `seen`, and goes along links, holds of all that is reached
  spread_keeps : (P : ℕ → Type 0) → ((i j : ℕ) → P i → linked m i j ≡ true → P j)
      → (k : ℕ) (seen : List ℕ) → ((i : ℕ) → is_seen seen i ≡ true → P i) → (i : ℕ) → is_seen (spread_by k m seen) i ≡ true → P i
  unfolding spread_by
  spread_keeps P ext zero seen h i e = h i e
  spread_keeps P ext (suc k) seen h i e =
      by_test (ltb (first 8 (joins m seen)) 8)
      (λ q. let f = joins_from m seen (first 8 (joins m seen)) (first_holds 8 (joins m seen) (ltb-true _ _ q)) in
      spread_keeps P ext k (set seen (first 8 (joins m seen)) 1)
      (λ i e. by_dec (ℕ_discrete i (first 8 (joins m seen)))
      (λ p. rw p (ext f.0 _ (h f.0 f.1) f.2))
      (λ p. h i (rw (get_or-set_other seen (first 8 (joins m seen)) i 1 0) at e))) i (rw q at e))
      (λ q. h i (rw q at e))

  -- nobody is lost
  set_keeps : (seen : List ℕ) (j i : ℕ) → is_seen seen i ≡ true → is_seen (set seen j 1) i ≡ true
  set_keeps [] j i h = h
  set_keeps (x ∷ seen) zero zero h = refl
  set_keeps (x ∷ seen) zero (suc i) h = h
  set_keeps (x ∷ seen) (suc j) zero h = h
  set_keeps (x ∷ seen) (suc j) (suc i) h = set_keeps seen j i h

  spread_grows : (k : ℕ) (seen : List ℕ) (i : ℕ) → is_seen seen i ≡ true → is_seen (spread_by k m seen) i ≡ true
  unfolding spread_by
  spread_grows zero seen i h = h
  spread_grows (suc k) seen i h =
      by_test (ltb (first 8 (joins m seen)) 8) (λ q. rw q (spread_grows k (set seen (first 8 (joins m seen)) 1) i (set_keeps seen _ i h))) (λ q. rw q h)

  -- in the end nobody joins: with each that joins one fewer is left
  all_seen : (seen : List ℕ) → unseen seen ≡ 0 → (j : ℕ) → j < length seen → is_seen seen j ≡ true
  unfolding unseen
  all_seen [] h j l = absurd (omega arith)
  all_seen (x ∷ seen) h zero l = by_test (eqb x 0) (λ e. let z : 1 + unseen seen ≡ 0 = rw e at h in absurd (omega arith)) (λ e. rw e)
  all_seen (x ∷ seen) h (suc j) l = all_seen seen (omega arith) j (omega arith)

  pub unseen-set : (seen : List ℕ) (j : ℕ) → j < length seen → get_or seen j 0 ≡ 0 → unseen seen ≡ suc (unseen (set seen j 1))
  unfolding unseen
  unseen-set [] j h e = absurd (omega arith)
  unseen-set (x ∷ seen) zero h e = rw (eq-eqb x 0 e) (omega arith)
  unseen-set (x ∷ seen) (suc j) h e = omega (arith, unseen-set seen j (omega arith) e)

  nobody-joins : (k : ℕ) (seen : List ℕ) → length seen ≡ 8 → unseen seen ≤ k → (j : ℕ) → j < 8 → joins m (spread_by k m seen) j ≡ false
  unfolding spread_by joins
  nobody-joins zero seen n u j l = rw (not-true (eqb (get_or seen j 0) 0) (all_seen seen (omega arith) j (omega arith)))
  nobody-joins (suc k) seen n u j l =
      by_test (ltb (first 8 (joins m seen)) 8)
      (λ q. let lt = ltb-true _ _ q in
      let v = unseen-set seen (first 8 (joins m seen)) (omega arith) (joins-unseen m seen (first 8 (joins m seen)) (first_holds 8 (joins m seen) lt)) in
      rw q (nobody-joins k (set seen (first 8 (joins m seen)) 1) (length-set seen _ 1 ∙ n) (omega arith) j l))
      (λ q. rw q (first_past 8 (joins m seen) (ltb-false _ _ q) j l))

  -- ---- the test gives paths
  zero_path : (i : ℕ) → is_seen zero_alone i ≡ true → Path m 0 i
  zero_path zero h = here
  zero_path (suc i) h = no_both _ h (rw (all_same {A = ℕ} 7 0 i))

  pub test-reached : (n : ℕ) → every_reached n m ≡ true → Reached n m
  unfolding every_reached
  test-reached n h i l =
      spread_keeps (Path m 0) (λ i j p e. further p e) (unseen zero_alone) zero_alone zero_path i (every_at n (is_seen (reached m zero_alone)) i h l)

  -- ---- and paths the test, where links are between the eight stations
  module _ (w : (i j : ℕ) → linked m i j ≡ true → (i < 8) × (j < 8)) where
    path_in : (i : ℕ) → Path m 0 i → is_seen (reached m zero_alone) i ≡ true
    unfolding unseen
    path_in i here = spread_grows (unseen zero_alone) zero_alone 0 refl
    path_in i (further {j = j} p e) =
        by_test (is_seen (reached m zero_alone) i) (λ h. h)
        (λ h. no_both _ (joins_to m (reached m zero_alone) j i (w j i e).0 (path_in j p) e (eqb-true _ _ (not-false _ h)))
        (nobody-joins (unseen zero_alone) zero_alone refl (omega arith) i (w j i e).1))

    pub reached-test : (n : ℕ) → Reached n m → every_reached n m ≡ true
    unfolding every_reached
    reached-test n r = every_of n (is_seen (reached m zero_alone)) (λ i l. path_in i (r i l))
