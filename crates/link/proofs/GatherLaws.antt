-- The greatest counts of messages fit where those of each do. Assumes nothing.
use Prim.Native.Nat.{ℕ, max, ◌≤◌}
use mathlib.Core.Path.{◌≡◌, refl, ◌∙◌}
use mathlib.Core.List.{List}
use mathlib.Core.Bool.{true, ◌&&◌, ◌||◌}
use native.Mathlib.Omega.{arith}
use native.Mathlib.Decide.{dec_le}
use lib.Dec.{eqb, leb}
use lib.ListN.{length, get_or, drop, replicate}
use borrow.Author.Tests.{le-leb, lt-leb, eq-eqb, ne_eqb}
use Rattle.codec.specs.Num.{nums_at}
use Rattle.codec.specs.Every.{all_zero}
use Rattle.codec.proofs.EveryLaws.{every_of, every_same}
use Rattle.codec.proofs.FlagLaws.{every_both}
use Rattle.clock.specs.Timestamp.{merged}
use Rattle.clock.specs.Range.{ceiling_of, counts_fit as fit}
use Rattle.clock.proofs.MergeLaws.{merged_at}
use Rattle.reset.proofs.Views.{all_same}
use Rattle.reset.specs.Config.{is_station}
use Rattle.reset.specs.Clock.{timestamp_fits}
use Rattle.link.specs.Image.{item_test, sized}

leb-max : (a b m : ℕ) → leb (max a b) m ≡ (leb a m && leb b m)
leb-max a b m = go (dec_le a m) (dec_le b m)
  where
    go : Dec (a ≤ m) → Dec (b ≤ m) → leb (max a b) m ≡ (leb a m && leb b m)
    go (yes p) (yes q) = rw (le-leb (max a b) m (omega arith), le-leb a m p, le-leb b m q)
    go (yes p) (no q) = rw (lt-leb (max a b) m (omega arith), le-leb a m p, lt-leb b m (omega arith))
    go (no p) d = rw (lt-leb (max a b) m (omega arith), lt-leb a m (omega arith))

module _ (n t : ℕ) where
  pub none_fit : fit n t (replicate 8 0) ≡ true
  unfolding fit
  none_fit = every_of 8 _ (λ k h. rw (all_same {A = ℕ} 8 0 k) (le-leb 0 (ceiling_of n t k) (omega arith)))

  pub merged_fit : (v w : List ℕ) → length v ≡ 8 → fit n t (merged v w) ≡ (fit n t v && fit n t w)
  unfolding fit
  merged_fit v w e =
      every_same 8 _ (λ (k : ℕ). leb (get_or v k 0) (ceiling_of n t k) && leb (get_or w k 0) (ceiling_of n t k)) (λ k h. rw (merged_at v w k (omega arith)) (leb-max (get_or v k 0) (get_or w k 0) (ceiling_of n t k)))
      ∙ every_both _ (λ (k : ℕ). leb (get_or v k 0) (ceiling_of n t k)) (λ (k : ℕ). leb (get_or w k 0) (ceiling_of n t k)) (λ k. refl) 8

  -- the test of a place, by its kind
  module _ (l : List ℕ) where
    pub message-test : get_or l 0 0 ≡ 1 → item_test (sized n t) l ≡ fit n t (nums_at 2 8 l 5)
    unfolding item_test timestamp_fits is_station fit
    message-test e = rw (eq-eqb _ 1 e)

    pub control-test : (get_or l 0 0 ≡ 1 → ⊥) → item_test (sized n t) l ≡ ((eqb (get_or l 0 0) 2 || eqb (get_or l 0 0) 3) && all_zero (drop 1 l))
    unfolding item_test
    control-test e = rw (ne_eqb _ 1 e)
