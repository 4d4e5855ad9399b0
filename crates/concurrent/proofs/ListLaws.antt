-- The unordered list: each record once that is concurrent, sorted, and no other list is. Assumes nothing.
use Prim.Native.Nat.{ℕ, ◌+◌, ◌≤◌, ◌<◌}
use mathlib.Core.Path.{◌≡◌, refl, ◌∙◌, sym}
use mathlib.Core.Logic.{◌↔◌, inl, inr}
use mathlib.Core.List.{List, Memᴰ}
use mathlib.Core.Bool.{Bool, true, false, cond, true≢false}
use native.Mathlib.Omega.{arith}
use native.Mathlib.Decide.{ℕ_discrete, dec_lt}
use lib.ListN.{length, get_or}
use borrow.Author.Tests.{eqb-true}
use Rattle.codec.specs.Every.{greatest}
use Rattle.codec.proofs.EveryLaws.{both}
use Rattle.codec.proofs.SumLaws.{sum_same, greatest_at}
use Rattle.lists.specs.Lists.{passing, sum_of, is, count, Sorted}
use Rattle.lists.specs.Places.{by_class}
use Rattle.lists.proofs.PassingLaws.{passing-rises, passing-length}
use Rattle.lists.proofs.JoinedLaws.{joined-sorted, joined_each}
use Rattle.lists.proofs.SumLaws.{sum-joined, sum_by_class, sum_ones}
use Rattle.lists.proofs.CountLaws.{count-passing, count-not-passing, counts-once, once-counts, member_counted}
use Rattle.lists.proofs.OneList.{one_list}
use Rattle.record.specs.declared.Record.{Record}
use Rattle.archive.specs.Archive.{archive_test, records}
use Rattle.events.specs.Events.{event_at, station_at, own_at}
use Rattle.events.proofs.Laws.{station-small}
use Rattle.concurrent.proofs.Laws.{has_below}
use Rattle.concurrent.specs.Unordered.{has_concurrent, is_unordered, concurrent_count, of_station, of_pair, concurrent_list, unordered_list, Ahead, Lists, EveryList}

-- ---- the order
pub ahead_one_way : (a : List ℕ) (x y : ℕ) → Ahead a x y → Ahead a y x → ⊥
ahead_one_way a x y (inl h) (inl k) = omega arith
ahead_one_way a x y (inl h) (inr (e, k)) = omega arith
ahead_one_way a x y (inr (e, h)) (inl k) = omega arith
ahead_one_way a x y (inr (e, inl h)) (inr (f, inl k)) = omega arith
ahead_one_way a x y (inr (e, inl h)) (inr (f, inr (g, k))) = omega arith
ahead_one_way a x y (inr (e, inr (d, h))) (inr (f, inl k)) = omega arith
ahead_one_way a x y (inr (e, inr (d, h))) (inr (f, inr (g, k))) = omega arith

module _ (a : List ℕ) (tested : archive_test a ≡ true) where
  own-most : (k : ℕ) → k < records a → own_at a k < greatest (records a) (own_at a) + 1
  own-most k l = omega (arith, greatest_at (records a) (own_at a) k l)

module _ (a : List ℕ) (x : Record) where
  abbrev n : ℕ
  n = records a

  abbrev p : ℕ → Bool
  p = has_concurrent a x

  of_station_lem : (s k : ℕ) → of_station a x s k ≡ true → (p k ≡ true) × (station_at a k ≡ s)
  of_station_lem s k h = let b = both (p k) _ h in (b.0, eqb-true (station_at a k) s b.1)

  of_pair_lem : (s c k : ℕ) → of_pair a x s c k ≡ true → (station_at a k ≡ s) × (own_at a k ≡ c)
  of_pair_lem s c k h = let b = both (of_station a x s k) _ h in ((of_station_lem s k b.0).1, eqb-true (own_at a k) c b.1)

  -- ---- the same elements
  module _ (tested : archive_test a ≡ true) (f : ℕ → ℕ) where
    pub stations-sum : sum_of f (by_class (of_station a x) n 8) ≡ sum_of f (passing n p)
    stations-sum = sum_by_class f p (station_at a) 8 n (λ k l h. station-small a tested k l)

    pub list_sum : sum_of f (concurrent_list a x) ≡ sum_of f (passing n p)
    unfolding concurrent_list
    list_sum =
        sum-joined f 8 (λ (s : ℕ). by_class (of_pair a x s) n (greatest n (own_at a) + 1))
        ∙ (sum_same 8 _ _ (λ s l. sum_by_class f (of_station a x s) (own_at a) (greatest n (own_at a) + 1) n (λ k b h. own-most a tested k b))
        ∙ (sym (sum-joined f 8 (λ (s : ℕ). passing n (of_station a x s))) ∙ stations-sum))

  -- ---- sorted
  pair-sorted : (s c : ℕ) → Sorted (Ahead a) (passing n (of_pair a x s c))
  pair-sorted s c i j h l =
      let w = passing-rises (of_pair a x s c) n in
      let u = of_pair_lem s c _ (w.passes i (omega arith)) in
      let v = of_pair_lem s c _ (w.passes j l) in
      inr (omega (arith, u.0, v.0), inr (omega (arith, u.1, v.1), omega (arith, w.rises i j h l)))

  station-sorted : (s : ℕ) → Sorted (Ahead a) (by_class (of_pair a x s) n (greatest n (own_at a) + 1))
  station-sorted s =
      joined-sorted (Ahead a) (greatest n (own_at a) + 1) (λ (c : ℕ). passing n (of_pair a x s c)) (λ c l. pair-sorted s c)
      (λ c d j k h l b e.
      let u = of_pair_lem s c _ ((passing-rises (of_pair a x s c) n).passes j b) in
      let v = of_pair_lem s d _ ((passing-rises (of_pair a x s d) n).passes k e) in
      inr (omega (arith, u.0, v.0), inl (omega (arith, u.1, v.1))))

  pub list_sorted : Sorted (Ahead a) (concurrent_list a x)
  unfolding concurrent_list
  list_sorted =
      joined-sorted (Ahead a) 8 (λ (s : ℕ). by_class (of_pair a x s) n (greatest n (own_at a) + 1)) (λ s l. station-sorted s)
      (λ s t j k h l b e. inl (omega (arith, at s j b, at t k e)))
    where
      at : (s j : ℕ) → j < length (by_class (of_pair a x s) n (greatest n (own_at a) + 1)) → station_at a (get_or (by_class (of_pair a x s) n (greatest n (own_at a) + 1)) j 0) ≡ s
      at s =
          joined_each (λ (c : ℕ). passing n (of_pair a x s c)) (λ (k : ℕ). station_at a k ≡ s) (greatest n (own_at a) + 1)
          (λ c j l b. (of_pair_lem s c _ ((passing-rises (of_pair a x s c) n).passes j b)).0)

  -- by station alone, in record order, where own counts do not fall
  pub stations-sorted : ((i j : ℕ) → i < j → p i ≡ true → p j ≡ true → station_at a i ≡ station_at a j → own_at a i ≤ own_at a j) → Sorted (Ahead a) (by_class (of_station a x) n 8)
  stations-sorted rises =
      joined-sorted (Ahead a) 8 (λ (s : ℕ). passing n (of_station a x s)) (λ s l. inside s)
      (λ s t j k h l b e. inl (omega (arith, (of_station_lem s _ ((passing-rises (of_station a x s) n).passes j b)).1, (of_station_lem t _ ((passing-rises (of_station a x t) n).passes k e)).1)))
    where
      later : (i j : ℕ) → i < j → station_at a i ≡ station_at a j → own_at a i ≤ own_at a j → Dec (own_at a i < own_at a j) → Ahead a i j
      later i j h e l (yes m) = inr (omega arith, inl (omega arith))
      later i j h e l (no m) = inr (omega arith, inr (omega (arith, m), omega arith))

      inside : (s : ℕ) → Sorted (Ahead a) (passing n (of_station a x s))
      inside s i j h l =
          let w = passing-rises (of_station a x s) n in
          let u = of_station_lem s _ (w.passes i (omega arith)) in
          let v = of_station_lem s _ (w.passes j l) in
          let e = u.1 ∙ sym v.1 in
          later _ _ (w.rises i j h l) e (rises _ _ (w.rises i j h l) u.0 v.0 e) (dec_lt _ _)

  -- ---- the one sorted list with these elements
  module _ (tested : archive_test a ≡ true) where
    pub sorted_is : (l : List ℕ) → ((k : ℕ) → count k l ≡ count k (passing n p)) → Sorted (Ahead a) l → l ≡ concurrent_list a x
    sorted_is l c s = one_list (Ahead a) (ahead_one_way a) l (concurrent_list a x) s list_sorted (λ k. c k ∙ sym (list_sum tested (is k)))

-- ---- what is claimed
module _ (a : List ℕ) (r : ℕ) where
  abbrev chosen : List ℕ
  chosen = passing (records a) (is_unordered a r)

  count-chosen : (k : ℕ) (t : Bool) → is_unordered a r k ≡ t → count k chosen ≡ cond t 1 0
  count-chosen k true e = count-passing (is_unordered a r) k (records a) e (has_below a (event_at a r) k e)
  count-chosen k false e = count-not-passing (is_unordered a r) k (records a) e

  -- counts tell members, and none twice
  counts_list : (l : List ℕ) → ((k : ℕ) → count k l ≡ count k chosen) → Sorted (Ahead a) l → Lists a r l
  counts_list l c s = record {
    members = λ k. go k (is_unordered a r k) refl;
    once = counts-once l (λ k. most k (is_unordered a r k) refl);
    sorted = s;
  }
    where
      most : (k : ℕ) (t : Bool) → is_unordered a r k ≡ t → count k l ≤ 1
      most k true e = omega (arith, c k, count-chosen k true e)
      most k false e = omega (arith, c k, count-chosen k false e)

      go : (k : ℕ) (t : Bool) → is_unordered a r k ≡ t → Memᴰ k l ↔ (is_unordered a r k ≡ true)
      go k true e = (λ m. e, λ m. (member_counted k l).1 (omega (arith, c k, count-chosen k true e)))
      go k false e = (λ m. absurd (omega (arith, c k, count-chosen k false e, (member_counted k l).0 m)), λ m. absurd (true≢false (sym m ∙ e)))

  list_counts : (l : List ℕ) → Lists a r l → (k : ℕ) → count k l ≡ count k chosen
  list_counts l w k = go (is_unordered a r k) refl
    where
      go : (t : Bool) → is_unordered a r k ≡ t → count k l ≡ count k chosen
      go true e = omega (arith, count-chosen k true e, once-counts l w.once k, (member_counted k l).0 ((w.members k).1 e))
      go false e = none (ℕ_discrete (count k l) 0)
        where
          none : Dec (count k l ≡ 0) → count k l ≡ count k chosen
          none (yes z) = omega (arith, count-chosen k false e)
          none (no z) = absurd (true≢false (sym ((w.members k).0 ((member_counted k l).1 (omega (arith, z)))) ∙ e))

pub every_list : EveryList
unfolding concurrent_count
every_list a tested r = record {
  lists = counts_list a r (unordered_list a r) (λ k. list_sum a (event_at a r) tested (is k)) (list_sorted a (event_at a r));
  only = λ l w. sorted_is a (event_at a r) tested l (list_counts a r l w) w.sorted;
  many = sym (sum_ones (unordered_list a r)) ∙ (list_sum a (event_at a r) tested (λ (k : ℕ). 1) ∙ (sum_ones (chosen a r) ∙ passing-length (is_unordered a r) (records a)));
}
