-- What a well_made_lem header, and one that keeps the network rules, says of its stations and links. Assumes nothing.
use Prim.Native.Nat.{ℕ, ◌+◌, ◌≤◌, ◌<◌}
use mathlib.Core.Path.{◌≡◌, sym}
use mathlib.Core.Logic.{◌≢◌, ◌↔◌}
use mathlib.Core.List.{[]}
use mathlib.Core.Bool.{true, ◌&&◌, and-false}
use native.Mathlib.Omega.{arith}
use native.Mathlib.Decide.{dec_lt}
use lib.Dec.{eqb, leb, ltb}
use lib.ListN.{length, get_or, get_or-eq_default}
use borrow.Author.Tests.{eqb-true, eqb-false, ltb-true, leb-true, not-true}
use Rattle.codec.specs.Every.{every, sum}
use Rattle.codec.proofs.EveryLaws.{both, every_at}
use Rattle.reset.specs.Reach.{limit, linked, Reached, every_reached}
use Rattle.reset.proofs.ReachLaws.{test-reached, reached-test}
use Rattle.reset.specs.Config.{Config, is_station, neighbours, size_fits, allowances_fit, limit_fits, row_fits, limits_fit, well_made, zero_at, zero_diagonal, both_or_none, linked_both_ways, allowance_below, limit_below, nothing_above, between, within_at, within_ceiling, network_rules}
use Rattle.reset.proofs.Cases.{by_test, by_dec, clash}

-- the ranges and lengths of a well_made_lem header
pub record Shape (c : Config) : Type 0 where
  pub some_station : 1 ≤ c.n
  pub small : c.n ≤ 8
  pub ceiling : c.t ≤ 65535
  pub allowances8 : length c.allowances ≡ 8
  pub rows8 : length c.limits ≡ 8
  pub row8 : (i : ℕ) → i < 8 → length (get_or c.limits i []) ≡ 8
  pub limit32 : (i j : ℕ) → i < 8 → j < 8 → limit c.limits i j ≤ 32

module _ (c : Config) (h : well_made c ≡ true) where
  fits : (size_fits c.n c.t ≡ true) × ((allowances_fit c.allowances && limits_fit c.limits) ≡ true)
  unfolding well_made
  fits = both (size_fits c.n c.t) _ h

  size : ((leb 1 c.n && leb c.n 8) ≡ true) × ((leb 1 c.t && leb c.t 65535) ≡ true)
  size = both (leb 1 c.n && leb c.n 8) _ fits.0

  long : length c.allowances ≡ 8
  unfolding allowances_fit
  long = eqb-true _ _ (both (eqb (length c.allowances) 8) _ (both (allowances_fit c.allowances) _ fits.1).0).0

  rows : (eqb (length c.limits) 8 ≡ true) × (every 8 (row_fits c.limits) ≡ true)
  unfolding limits_fit
  rows = both (eqb (length c.limits) 8) _ (both (allowances_fit c.allowances) _ fits.1).1

  row : (i : ℕ) → i < 8 → (eqb (length (get_or c.limits i [])) 8 ≡ true) × (every 8 (limit_fits c.limits i) ≡ true)
  row i l = both (eqb (length (get_or c.limits i [])) 8) _ (every_at 8 (row_fits c.limits) i rows.1 l)

  pub shape : Shape c
  shape =
      record {
        some_station = leb-true _ _ (both (leb 1 c.n) _ size.0).0;
        small = leb-true _ _ (both (leb 1 c.n) _ size.0).1;
        ceiling = leb-true _ _ (both (leb 1 c.t) _ size.1).1;
        allowances8 = long;
        rows8 = eqb-true _ _ rows.0;
        row8 = λ i l. eqb-true _ _ (row i l).0;
        limit32 = λ i j il jl. leb-true _ _ (every_at 8 (limit_fits c.limits i) j (row i il).1 jl);
      }

  -- outside the table there is no link
  limit-past : (i j : ℕ) → (i < 8 → j < 8 → ⊥) → limit c.limits i j ≡ 0
  unfolding limit
  limit-past i j f =
      by_dec (dec_lt i 8)
      (λ l. get_or-eq_default (get_or c.limits i []) 0 (by_dec (dec_lt j 8) (λ q. absurd (f l q)) (λ q. omega (arith, shape.row8 i l))))
      (λ l. rw (get_or-eq_default c.limits [] {n = i} (omega (arith, shape.rows8))))

  -- a link joins two of the eight
  pub linked-small : (i j : ℕ) → linked c.limits i j ≡ true → (i < 8) × (j < 8)
  unfolding linked
  linked-small i j e =
      let none : (i < 8 → j < 8 → ⊥) → (i < 8) × (j < 8) = λ f. absurd (eqb-false _ _ (not-true _ e) (limit-past i j f)) in
      by_dec (dec_lt i 8) (λ p. by_dec (dec_lt j 8) (λ q. (p, q)) (λ q. none (λ x y. q y))) (λ p. none (λ x y. p x))

  -- the spreading test is exact
  pub reached_exactly : (every_reached c.n c.limits ≡ true) ↔ Reached c.n c.limits
  reached_exactly = (test-reached c.limits c.n, reached-test c.limits linked-small c.n)

-- what the network rules say of any stations i and j
pub record Rules (c : Config) : Type 0 where
  pub both_ways : (i j : ℕ) → neighbours c i j ≡ true → neighbours c j i ≡ true
  pub loopless : (i : ℕ) → neighbours c i i ≡ true → ⊥
  pub inside : (i j : ℕ) → neighbours c i j ≡ true → j < c.n
  pub small : c.n ≤ 8

module _ (c : Config) (h : well_made c ≡ true) (r : network_rules c ≡ true) where
  parts : (zero_diagonal c.limits ≡ true) × (linked_both_ways c.limits ≡ true) × (nothing_above c.n c.allowances c.limits ≡ true)
  unfolding network_rules
  parts =
      let a = both (zero_diagonal c.limits) _ r in
      let b = both (linked_both_ways c.limits) _ a.1 in
      (a.0, b.0, (both (nothing_above c.n c.allowances c.limits) _ b.1).0)

  twin : (i j : ℕ) → i < 8 → j < 8 → both_or_none c.limits i j ≡ true
  unfolding linked_both_ways
  twin i j il jl = every_at 8 (both_or_none c.limits i) j (every_at 8 (λ (k : ℕ). every 8 (both_or_none c.limits k)) i parts.1 il) jl

  below : (i j : ℕ) → i < 8 → j < 8 → limit_below c.n c.limits i j ≡ true
  unfolding nothing_above
  below i j il jl =
      every_at 8 (limit_below c.n c.limits i) j
      (every_at 8 (λ (k : ℕ). every 8 (limit_below c.n c.limits k)) i (both (every 8 (allowance_below c.n c.allowances)) _ parts.2).1 il) jl

  back : (i j : ℕ) → linked c.limits i j ≡ true → linked c.limits j i ≡ true
  unfolding linked
  back i j e =
      let s = linked-small c h i j e in
      by_test (eqb (limit c.limits j i) 0) (λ b. clash (sym (rw (not-true (eqb (limit c.limits i j) 0) e, b) at (twin i j s.0 s.1)))) (λ b. rw b)

  alone : (i : ℕ) → linked c.limits i i ≡ true → ⊥
  unfolding linked zero_diagonal
  alone i e = eqb-false (limit c.limits i i) 0 (not-true _ e) (eqb-true _ _ (every_at 8 (zero_at c.limits) i parts.0 (linked-small c h i i e).0))

  within_n : (i j : ℕ) → linked c.limits i j ≡ true → j < c.n
  unfolding linked
  within_n i j e =
      let s = linked-small c h i j e in
      by_test (ltb j c.n) (λ b. ltb-true _ _ b) (λ b. clash (sym (rw (not-true (eqb (limit c.limits i j) 0) e, b, and-false) at (below i j s.0 s.1))))

  pub rules : Rules c
  unfolding neighbours
  rules = record { both_ways = back; loopless = alone; inside = within_n; small = (shape c h).small }

-- a station is below n, every neighbour is one of the eight, and no station is its own
pub station-below : (c : Config) (i : ℕ) → is_station c i ≡ true → i < c.n
unfolding is_station
station-below c i h = ltb-true _ _ h

module _ (c : Config) (u : Rules c) (i j : ℕ) (h : neighbours c i j ≡ true) where
  pub neighbour-small : j < 8
  neighbour-small = omega (arith, u.inside i j h, u.small)

  pub not_itself : j ≢ i
  not_itself e = u.loopless i (rw e at h)

-- the last two rules: every station can be reached, and the sum rule
module _ (c : Config) (r : network_rules c ≡ true) where
  last_two : (every_reached c.n c.limits ≡ true) × (within_ceiling c.t c.allowances c.limits ≡ true)
  unfolding network_rules
  last_two =
      let a = both (zero_diagonal c.limits) _ r in
      let b = both (linked_both_ways c.limits) _ a.1 in
      both (every_reached c.n c.limits) _ (both (nothing_above c.n c.allowances c.limits) _ b.1).1

  pub all_reached : Reached c.n c.limits
  all_reached = test-reached c.limits c.n last_two.0

  pub within-sum : (i : ℕ) → i < 8 → get_or c.allowances i 0 + sum 8 (between c.limits i) ≤ c.t
  unfolding within_ceiling
  within-sum i l = leb-true _ _ (every_at 8 (within_at c.t c.allowances c.limits) i last_two.1 l)
