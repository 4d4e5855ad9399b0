-- What one window tells of the whole archive. Assumes nothing.
use Prim.Native.Nat.{ℕ, zero, suc, ◌+◌, ◌-◌, ◌≤◌, ◌<◌}
use mathlib.Core.Path.{◌≡◌, refl, ◌∙◌}
use mathlib.Core.Logic.{inl}
use mathlib.Core.List.{List}
use mathlib.Core.Bool.{Bool, true, false}
use native.Mathlib.Omega.{arith}
use native.Mathlib.Numerals.{add-one}
use native.Mathlib.Decide.{ℕ_discrete, dec_le}
use lib.ListN.{length, length-append}
use borrow.Author.Tests.{eq-eqb, ne_eqb}
use Rattle.codec.specs.Num.{AreBytes}
use Rattle.codec.specs.Every.{count_below}
use Rattle.codec.proofs.CountLaws.{count_none, count-passed, count_failed, count-empty}
use Rattle.lists.specs.Lists.{is, same, Arranged}
use Rattle.archive.specs.Archive.{archive_test, records}
use Rattle.well_kept.specs.WellKept.{well_kept}
use Rattle.well_kept.specs.Keys.{key_at, no_key, has_key, times, runs_on, last_from, keys_in}
use Rattle.well_kept.specs.Windows.{Gathered, Stands, Checked}
use Rattle.well_kept.specs.declared.Window.{Window}
use Rattle.well_kept.proofs.KeyLaws.{key-own, key_below, stands_kept, kept_stands}
use Rattle.well_kept.proofs.WindowLaws.{within-yes, within-out, keys_none, keys_more, keys_same, keys_count, keys_inside, Left, run_checks, run_fails}

module _ (a : List ℕ) (tested : archive_test a ≡ true) (bytes : AreBytes a) where
  -- ---- keys that are not there
  no_times : (x : ℕ) → ((k : ℕ) → k < records a → key_at a k ≡ x → ⊥) → times a x ≡ 0
  unfolding times
  no_times x h = count-empty (has_key a x) (records a) (λ k l. ne_eqb (key_at a k) x (h k l))

  not_there : (x : ℕ) → times a x ≡ 0 → Stands a x
  not_there x z = record { once = omega arith; next = λ o. absurd (omega arith) }

  -- ---- before the first window
  pub checked_none : Checked a 0 0
  checked_none = record {
    stand = λ x h. not_there x (none x h);
    below = omega arith;
    none = λ x h k. absurd (omega arith);
    some = inl refl;
  }
    where
      none : (x : ℕ) → x ≤ 0 → times a x ≡ 0
      none x h = no_times x (λ k l e. let o = (key-own a tested bytes k l).1 in omega arith)

  -- ---- behind the last
  pub checked_all : (lo p : ℕ) → Checked a lo p → no_key ≤ lo + 1 → well_kept a ≡ true
  checked_all lo p c h = stands_kept a tested bytes (λ x. go x (dec_le x lo))
    where
      go : (x : ℕ) → Dec (x ≤ lo) → Stands a x
      go x (yes d) = c.stand x d
      go x (no d) = not_there x (no_times x (λ k l e. let o = key_below a tested bytes k l in omega (arith, d)))

  -- ---- a window that has places for its keys
  module _ {lo hi p : ℕ} {w : Window} {list : List ℕ} (g : Gathered a lo hi (records a) w list) (c : Checked a lo p) (le : lo ≤ hi) where
    skip : (q : ℕ) → Checked a hi q → Checked a (w.next - 1) q
    skip q d =
        let n = g.above in
        record {
          stand = λ x h. stand x h (dec_le x hi);
          below = omega (arith, d.below);
          none = λ x h k. none x h k (dec_le x hi);
          some = d.some;
        }
      where
        behind : (x : ℕ) → hi < x → x ≤ w.next - 1 → times a x ≡ 0
        behind x h k = no_times x (λ i l e. let n = g.above in omega (arith, g.none i l (omega arith)))

        stand : (x : ℕ) → x ≤ w.next - 1 → Dec (x ≤ hi) → Stands a x
        stand x h (yes y) = d.stand x y
        stand x h (no y) = not_there x (behind x (omega (arith, y)) h)

        none : (x : ℕ) → q < x → x ≤ w.next - 1 → Dec (x ≤ hi) → times a x ≡ 0
        none x h k (yes y) = d.none x h y
        none x h k (no y) = behind x (omega (arith, y)) k

    module _ (l : List ℕ) (s : Arranged same (keys_in a lo hi (records a)) l) where
      left : Left a lo hi l
      unfolding times
      left = record {
        up = s.up;
        counts = λ x h k. s.sums (is x) ∙ keys_count a lo hi x h k (records a);
        inside = λ x h. keys_inside a lo hi x (records a) (omega (arith, s.sums (is x)));
      }

      pub window_kept : runs_on p l ≡ true → Checked a (w.next - 1) (last_from p l)
      window_kept r = skip (last_from p l) (run_checks a hi l lo p le left c r)

      pub window_not : runs_on p l ≡ false → well_kept a ≡ false
      window_not r = go (well_kept a) refl
        where
          go : (t : Bool) → well_kept a ≡ t → well_kept a ≡ false
          go true e = absurd (run_fails a hi l lo p left c r (kept_stands a tested bytes e))
          go false e = e

  -- ---- a window of one number with several keys
  one_number : (lo hi : ℕ) → hi ≡ lo + 1 → (n : ℕ) → length (keys_in a lo hi n) ≡ count_below n (has_key a hi)
  one_number lo hi e zero = rw (keys_none a lo hi, count_none (has_key a hi)) refl
  one_number lo hi e (suc n) = rw (← add-one) (go (one_number lo hi e n) (ℕ_discrete (key_at a n) hi))
    where
      go : length (keys_in a lo hi n) ≡ count_below n (has_key a hi) → Dec (key_at a n ≡ hi) → length (keys_in a lo hi (n + 1)) ≡ count_below (n + 1) (has_key a hi)
      go ih (yes q) =
          rw (keys_more a lo hi n (within-yes lo hi (key_at a n) (omega arith) (omega arith)), length-append, count-passed (has_key a hi) n (eq-eqb (key_at a n) hi q)) (omega (arith, ih))
      go ih (no q) = rw (keys_same a lo hi n (within-out lo hi (key_at a n) (λ h k. q (omega arith))), count_failed (has_key a hi) n (ne_eqb (key_at a n) hi q)) ih

  pub too_many : {lo hi : ℕ} {w : Window} {list : List ℕ} → Gathered a lo hi (records a) w list → hi ≡ lo + 1 → 2 ≤ w.count → well_kept a ≡ false
  unfolding times
  too_many {lo} {hi} g e h = go (well_kept a) refl
    where
      go : (t : Bool) → well_kept a ≡ t → well_kept a ≡ false
      go true k = absurd (omega (arith, (kept_stands a tested bytes k hi).once, g.many, one_number lo hi e (records a)))
      go false k = k
