-- Happened-before as a computed table, for the worked lists: a table that the two tests below pass is exactly the relation. Assumes nothing.
use Prim.Native.Nat.{ℕ, zero, suc, ◌<◌}
use mathlib.Core.Path.{◌≡◌, refl, sym}
use mathlib.Core.Logic.{◌↔◌}
use mathlib.Core.List.{List}
use mathlib.Core.Bool.{Bool, true, false, not, ◌&&◌, ◌||◌, true≢false}
use native.Mathlib.Omega.{arith}
use lib.Dec.{eqb, ltb}
use lib.ListN.{length}
use borrow.Author.Tests.{eqb-true, eq-eqb, ltb-true, lt-ltb}
use Rattle.codec.specs.Every.{every, some}
use Rattle.codec.proofs.EveryLaws.{both, every_at}
use Rattle.reset.specs.Steps.{Step, enter, send, recv, start}
use Rattle.reset.specs.Worked.{pair, middle, listing}
use Rattle.reset.proofs.Cases.{by_test}
use Rattle.causality.specs.HappenedBefore.{Accepted, accepted, entry_at, station_of, is_send, is_recv, count, GoesWith, HappenedBefore, same_station, sent-received, chain}
use Rattle.causality.specs.Worked.{log_of, Inside, in_table, relayed, relayed_table, crossing, crossing_table, listing_table, OrderedLists}

-- ---- the relation's two sources, computed
abbrev follows : List Accepted → ℕ → ℕ → Bool
follows E x y = ltb x y && eqb (station_of E x) (station_of E y)

abbrev goes_by : List Accepted → ℕ → ℕ → Step → Bool
goes_by E x y (enter i g) = false
goes_by E x y (send i j g) = is_recv i j (entry_at E y).step && eqb (count (is_send i j) E x) (count (is_recv i j) E y)
goes_by E x y (recv i j) = false
goes_by E x y (start i) = false

abbrev edge : List Accepted → ℕ → ℕ → Bool
edge E x y = follows E x y || goes_by E x y (entry_at E x).step

-- ---- the two tests of a table R, on all pairs of entries
abbrev pairs : ℕ → (ℕ → ℕ → Bool) → Bool
pairs n p = every n (λ (x : ℕ). every n (p x))

-- R has every edge, and is transitive
abbrev has_edge : List Accepted → (ℕ → ℕ → Bool) → ℕ → ℕ → Bool
has_edge E R x y = not (edge E x y) || R x y

abbrev joined : List Accepted → (ℕ → ℕ → Bool) → ℕ → ℕ → Bool
joined E R x y = every (length E) (λ (z : ℕ). not (R x y && R y z) || R x z)

unfoldable closed : List Accepted → (ℕ → ℕ → Bool) → Bool
closed E R = pairs (length E) (has_edge E R) && pairs (length E) (joined E R)

-- each pair of R is an edge, or comes by an edge from an earlier one
abbrev via_at : List Accepted → (ℕ → ℕ → Bool) → ℕ → ℕ → ℕ → Bool
via_at E R x y z = R x z && edge E z y

abbrev grounded : List Accepted → (ℕ → ℕ → Bool) → ℕ → ℕ → Bool
grounded E R x y = not (R x y) || (edge E x y || some y (via_at E R x y))

unfoldable justified : List Accepted → (ℕ → ℕ → Bool) → Bool
justified E R = pairs (length E) (grounded E R)

-- ---- laws
pair_at : (n : ℕ) (p : ℕ → ℕ → Bool) (x y : ℕ) → pairs n p ≡ true → x < n → y < n → p x y ≡ true
pair_at n p x y h xl yl = every_at n (p x) y (every_at n (λ (k : ℕ). every n (p k)) x h xl) yl

some_finds : (n : ℕ) (p : ℕ → Bool) → some n p ≡ true → (i : ℕ) × (i < n) × (p i ≡ true)
unfolding some
some_finds zero p e = absurd (true≢false (sym e))
some_finds (suc n) p e =
    by_test (some n p)
    (λ h. let t = some_finds n p h in (t.0, let l = t.1 in omega arith, t.2))
    (λ h. (n, omega arith, rw h at e))

module _ (E : List Accepted) where
  -- the computed edge and the relation's sources
  goes_with : (x y : ℕ) (p : Step) (g : GoesWith E x y) → is_send g.a g.b p ≡ true → goes_by E x y p ≡ true
  goes_with x y (enter i k) g h = h
  goes_with x y (send i j k) g h =
      let t = both (eqb i g.a) _ h in
      rw (eqb-true i g.a t.0, eqb-true j g.b t.1, g.received) (eq-eqb _ _ g.same_number)
  goes_with x y (recv i j) g h = h
  goes_with x y (start i) g h = h

  with_goes : (x y : ℕ) (p : Step) → (entry_at E x).step ≡ p → x < length E → y < length E → goes_by E x y p ≡ true → GoesWith E x y
  with_goes x y (enter i k) e xl yl h = absurd (true≢false (sym h))
  with_goes x y (send i j k) e xl yl h =
      let t = both (is_recv i j (entry_at E y).step) _ h in
      record { a = i; b = j; x_in = xl; y_in = yl; sent = rw (e, eq-eqb i i refl, eq-eqb j j refl); received = t.0; same_number = eqb-true _ _ t.1 }
  with_goes x y (recv i j) e xl yl h = absurd (true≢false (sym h))
  with_goes x y (start i) e xl yl h = absurd (true≢false (sym h))

  of_edge : (x y : ℕ) → x < length E → y < length E → edge E x y ≡ true → HappenedBefore E x y
  of_edge x y xl yl h =
      by_test (follows E x y)
      (λ e. let t = both (ltb x y) _ e in same_station (ltb-true x y t.0) yl (eqb-true _ _ t.1))
      (λ e. sent-received (with_goes x y (entry_at E x).step refl xl yl (rw e at h)))

  module _ (R : ℕ → ℕ → Bool) where
    -- the relation is in the table
    in_table_lem : closed E R ≡ true → (x y : ℕ) → HappenedBefore E x y → Inside E R x y
    unfolding closed
    in_table_lem c x y (same_station l m e) =
        let f = pair_at (length E) (has_edge E R) x y (both (pairs (length E) (has_edge E R)) _ c).0 (omega arith) m in
        (omega arith, m, rw (lt-ltb x y l, eq-eqb (station_of E x) (station_of E y) e) at f)
    in_table_lem c x y (sent-received g) =
        let f = pair_at (length E) (has_edge E R) x y (both (pairs (length E) (has_edge E R)) _ c).0 g.x_in g.y_in in
        let t = goes_with x y (entry_at E x).step g g.sent in
        (g.x_in, g.y_in, by_test (follows E x y) (λ e. rw e at f) (λ e. rw (e, t) at f))
    in_table_lem c x y (chain {y = z} h k) =
        let p = in_table_lem c x z h in
        let q = in_table_lem c z y k in
        let f = pair_at (length E) (joined E R) x z (both (pairs (length E) (has_edge E R)) _ c).1 p.0 p.1 in
        let t = every_at (length E) (λ (w : ℕ). not (R x z && R z w) || R x w) y f q.1 in
        (p.0, q.1, rw (p.2, q.2) at t)

    -- the table is in the relation
    by : (n : ℕ) → justified E R ≡ true → (x y : ℕ) → y < n → Inside E R x y → HappenedBefore E x y
    unfolding justified
    by zero j x y l p = absurd (omega arith)
    by (suc n) j x y l p =
        let xl = p.0 in
        let yl = p.1 in
        let g : (edge E x y || some y (via_at E R x y)) ≡ true = rw p.2 at (pair_at (length E) (grounded E R) x y j xl yl) in
        by_test (edge E x y) (λ e. of_edge x y xl yl e)
        (λ e. let (z, zl, t) = some_finds y (via_at E R x y) (rw e at g) in
        let v = both (R x z) (edge E z y) t in
        chain (by n j x z (omega arith) (xl, omega arith, v.0)) (of_edge z y (omega arith) yl v.1))

    -- a table that passes both tests is the relation
    table-exact : closed E R ≡ true → justified E R ≡ true → (x y : ℕ) → HappenedBefore E x y ↔ Inside E R x y
    table-exact c j x y = (in_table_lem c x y, λ p. by (suc y) j x y (omega arith) p)

-- ---- the worked lists
pub worked-orders : OrderedLists
unfolding log_of closed justified
worked-orders =
    record {
      relayed-orders = record { number = refl; exact = table-exact (accepted (log_of middle relayed)) (in_table relayed_table) refl refl; timestamps = refl };
      crossing-orders = record { number = refl; exact = table-exact (accepted (log_of pair crossing)) (in_table crossing_table) refl refl; timestamps = refl };
      listing-orders = record { number = refl; exact = table-exact (accepted (log_of pair listing)) (in_table listing_table) refl refl; timestamps = refl };
    }
