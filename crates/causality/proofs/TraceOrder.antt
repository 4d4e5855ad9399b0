-- In a trace, happened-before within a phase is timestamp order, and each message is received as it was sent. Assumes nothing.
use Prim.Native.Nat.{ℕ, zero, suc, ◌≤◌, ◌<◌, max}
use mathlib.Core.Path.{◌≡◌, refl, sym, ap, ◌∙◌}
use mathlib.Core.Logic.{◌≢◌}
use mathlib.Core.List.{List}
use mathlib.Core.Bool.{true}
use native.Mathlib.Omega.{arith}
use native.Mathlib.Decide.{ℕ_discrete, dec_lt, dec_le}
use lib.Dec.{eqb}
use lib.ListN.{get_or, length, length-replicate, get_or-eq_default}
use borrow.Author.Tests.{eqb-true, eq-eqb}
use Rattle.codec.specs.Every.{count_below}
use Rattle.codec.proofs.EveryLaws.{both}
use Rattle.codec.proofs.PutLaws.{put_same, put_other, put_keeps}
use Rattle.clock.specs.Timestamp.{zeros, tick, merged, raised}
use Rattle.clock.proofs.MergeLaws.{merged-length, merged_at}
use Rattle.reset.proofs.Views.{zeros_at}
use Rattle.causality.specs.Plain.{Message}
use Rattle.causality.specs.HappenedBefore.{Accepted, entry_at, phase_of, timestamp_of, GoesWith, HappenedBefore, same_station, sent-received, chain}
use Rattle.causality.specs.Sound.{ReceivedAsSent, OrderedByTimestamp}
use Rattle.causality.proofs.Trace.{record_station, is_of, entries_before, last_of, counts_before, received, Trace}
use Rattle.causality.proofs.TraceLaws.{goes_one, by_follows, follows-station}
use Rattle.causality.proofs.Order.{Chain, edge, join, Clocked, chain-later, chain-rise, chain_exactly}
use Rattle.reset.proofs.Cases.{by_test, by_dec, clash}

-- ---- counts of eight
zeros-length : length zeros ≡ 8
unfolding zeros
zeros-length = length-replicate {A = ℕ} 8 0

raised-other : (i k : ℕ) (v w : List ℕ) → length v ≡ length w → k ≢ i → get_or (raised i v w) k 0 ≡ max (get_or v k 0) (get_or w k 0)
raised-other i k v w e n =
    put_other 0 (merged v w) i k _ n
    ∙ by_dec (dec_lt k (length v)) (merged_at v w k)
    (λ l. let a : get_or (merged v w) k 0 ≡ 0 = get_or-eq_default (merged v w) 0 (omega (arith, merged-length v w)) in
    let b : get_or v k 0 ≡ 0 = get_or-eq_default v 0 (omega arith) in
    let d : get_or w k 0 ≡ 0 = get_or-eq_default w 0 (omega arith) in
    omega arith)

-- ---- the relation's sources
pub data Edge (E : List Accepted) : ℕ → ℕ → Type 0 where
  stationed : {x y : ℕ} → x < y → y < length E → record_station E x ≡ record_station E y → Edge E x y
  messaged : {x y : ℕ} → GoesWith E x y → Edge E x y

abbrev pub vc : List Accepted → ℕ → ℕ → ℕ
vc E x k = get_or (timestamp_of E x) k 0

-- entry x is of station i in phase f
pub is_of_lem : (E : List Accepted) (i f x : ℕ) → record_station E x ≡ i → phase_of E x ≡ f → is_of i f (entry_at E x) ≡ true
is_of_lem E i f x s p = rw (eq-eqb (phase_of E x) f p, eq-eqb (record_station E x) i s)

pub of_is : (E : List Accepted) (i f x : ℕ) → is_of i f (entry_at E x) ≡ true → (record_station E x ≡ i) × (phase_of E x ≡ f)
of_is E i f x h = let t = both (eqb (phase_of E x) f) _ h in (eqb-true _ _ t.1, eqb-true _ _ t.0)

module _ (E : List Accepted) (T : List (List Message)) (R : Trace E T) where
  -- ---- every timestamp has eight counts
  last_length : (i f m : ℕ) → ((y : ℕ) → y < m → length (timestamp_of E y) ≡ 8) → length (last_of E i f m) ≡ 8
  last_length i f zero h = zeros-length
  last_length i f (suc m) h =
      by_test (is_of i f (entry_at E m)) (λ t. rw t (h m (omega arith))) (λ t. rw t (last_length i f m (λ y l. h y (omega arith))))

  lengths : (m y : ℕ) → y < m → y < length E → length (timestamp_of E y) ≡ 8
  lengths zero y l yl = absurd (omega arith)
  lengths (suc m) y l yl =
      let b = last_length (record_station E y) (phase_of E y) y (λ z zl. lengths m z (omega arith) (omega arith)) in
      let s = R.small y yl in
      by_follows (R.follows y yl) (λ n e. ap length e ∙ put_keeps 0 (counts_before E y) _ _ (omega arith) ∙ b)
      (λ x xl g p t e. let k = merged-length (counts_before E y) (timestamp_of E x) in
      ap length e ∙ put_keeps 0 (merged (counts_before E y) (timestamp_of E x)) _ _ (omega arith) ∙ k ∙ b)

  pub eight : (y : ℕ) → y < length E → length (timestamp_of E y) ≡ 8
  eight y yl = lengths (suc y) y (omega arith) yl

  before_eight : (y : ℕ) → y < length E → length (counts_before E y) ≡ 8
  before_eight y yl = last_length (record_station E y) (phase_of E y) y (λ z zl. eight z (omega arith))

  -- ---- an entry's counts over those before it
  own-rises : (y : ℕ) → y < length E → vc E y (record_station E y) ≡ suc (get_or (counts_before E y) (record_station E y) 0)
  own-rises y yl =
      by_follows (R.follows y yl)
      (λ n e. ap (λ (v : List ℕ). get_or v (record_station E y) 0) e ∙ put_same 0 (counts_before E y) _ _)
      (λ x xl g p t e. ap (λ (v : List ℕ). get_or v (record_station E y) 0) e ∙ put_same 0 (merged (counts_before E y) (timestamp_of E x)) _ _)

  -- the other counts of an entry that takes no message
  ticked-other : (y k : ℕ) → k ≢ record_station E y → timestamp_of E y ≡ tick (record_station E y) (counts_before E y) → vc E y k ≡ get_or (counts_before E y) k 0
  ticked-other y k n e = ap (λ (v : List ℕ). get_or v k 0) e ∙ put_other 0 (counts_before E y) (record_station E y) k _ n

  -- those of a receipt
  raised_to : (x y k : ℕ) → x < y → y < length E → k ≢ record_station E y → timestamp_of E y ≡ raised (record_station E y) (counts_before E y) (timestamp_of E x)
      → vc E y k ≡ max (get_or (counts_before E y) k 0) (vc E x k)
  raised_to x y k xl yl n e =
      ap (λ (v : List ℕ). get_or v k 0) e ∙ raised-other (record_station E y) k (counts_before E y) (timestamp_of E x) (before_eight y yl ∙ sym (eight x (omega arith))) n

  -- no count falls
  none_falls : (y k : ℕ) → y < length E → get_or (counts_before E y) k 0 ≤ vc E y k
  none_falls y k yl =
      by_dec (ℕ_discrete k (record_station E y)) (λ q. rw q (omega (arith, own-rises y yl)))
      (λ q. by_follows (R.follows y yl) (λ n e. omega (arith, ticked-other y k q e)) (λ x xl g p t e. omega (arith, raised_to x y k xl yl q e)))

  -- ---- the entries of a station in a phase
  -- no count falls from one to the last
  reach : (i f m x k : ℕ) → x < m → m ≤ length E → record_station E x ≡ i → phase_of E x ≡ f → vc E x k ≤ get_or (last_of E i f m) k 0
  reach i f zero x k l ml s p = absurd (omega arith)
  reach i f (suc m) x k l ml s p =
      by_dec (ℕ_discrete x m) (λ q. rw (is_of_lem E i f m (rw q at s) (rw q at p), q) (omega arith))
      (λ q. let r = reach i f m x k (omega arith) (omega arith) s p in
      by_test (is_of i f (entry_at E m))
      (λ h. let t = of_is E i f m h in
      let n : get_or (last_of E i f m) k 0 ≤ vc E m k = rw (t.0, t.1) at (none_falls m k (omega arith)) in
      rw h (omega arith))
      (λ h. rw h r))

  -- the last is one of them
  abbrev Found : ℕ → ℕ → ℕ → ℕ → Type 0
  Found i f m k = (y : ℕ) × (y < m) × (record_station E y ≡ i) × (phase_of E y ≡ f) × (vc E y k ≡ get_or (last_of E i f m) k 0)

  last_found : (i f m k : ℕ) → zero < get_or (last_of E i f m) k 0 → Found i f m k
  last_found i f zero k h = absurd (omega (arith, zeros_at k))
  last_found i f (suc m) k h =
      by_test (is_of i f (entry_at E m))
      (λ e. let t = of_is E i f m e in (m, omega arith, t.0, t.1, rw e))
      (λ e. let z = last_found i f m k (rw e at h) in (z.0, let a = z.1 in omega arith, z.2, z.3, rw e z.4))

  -- its own count is their number
  last_own : (i f m : ℕ) → m ≤ length E → get_or (last_of E i f m) i 0 ≡ entries_before E i f m
  unfolding count_below
  last_own i f zero l = zeros_at i
  last_own i f (suc m) l =
      let r = last_own i f m (omega arith) in
      by_test (is_of i f (entry_at E m))
      (λ e. let t = of_is E i f m e in
      let o : vc E m i ≡ suc (get_or (last_of E i f m) i 0) = rw (t.0, t.1) at (own-rises m (omega arith)) in
      rw e (omega arith))
      (λ e. rw e (omega arith))

  -- the own counts of a station in a phase are 1, 2, 3 .., each once, in list order
  pub own-counts : (y : ℕ) → y < length E → vc E y (record_station E y) ≡ suc (entries_before E (record_station E y) (phase_of E y) y)
  own-counts y yl = omega (arith, own-rises y yl, last_own (record_station E y) (phase_of E y) y (omega arith))

  -- ---- what goes with a receipt
  goes_says : (x y : ℕ) → GoesWith E x y → (x < y) × (phase_of E x ≡ phase_of E y) × ((k : ℕ) → k ≢ record_station E y → vc E x k ≤ vc E y k)
  goes_says x y g =
      by_follows (R.follows y g.y_in) (λ n e. clash (sym g.received ∙ n g.a g.b))
      (λ z zl h p t e. let q : x ≡ z = goes_one E x z y g h in
      (omega arith, ap (phase_of E) q ∙ p, λ k n. omega (arith, ap (λ (w : ℕ). vc E w k) q, raised_to z y k zl g.y_in n e)))

  -- each message is received as it was sent
  pub as_sent : ReceivedAsSent E T
  as_sent y a b yl r = by_follows (R.follows y yl) (λ n e. clash (sym r ∙ n a b)) (λ x xl g p t e. (x, xl, g, p, t))

  -- ---- a trace is clocked
  -- an edge goes up, and never down in phase; between two phases it stays at its station, and within one no count of another station falls
  edge_says : (x y : ℕ) → Edge E x y
      → (x < y) × (y < length E) × (phase_of E x ≤ phase_of E y) × (phase_of E x ≢ phase_of E y → record_station E x ≡ record_station E y)
      × (phase_of E x ≡ phase_of E y → (k : ℕ) → k ≢ record_station E y → vc E x k ≤ vc E y k)
  edge_says x y (stationed l m e) =
      (l, m, R.phases x y l m e, λ n. e, λ p k n. omega (arith, reach (record_station E y) (phase_of E y) y x k l (omega arith) e p, none_falls y k m))
  edge_says x y (messaged g) = let (l, p, d) = goes_says x y g in (l, g.y_in, omega arith, λ n. absurd (n p), λ q. d)

  rise : (x y k : ℕ) → x < y → y < length E → record_station E x ≡ k → record_station E y ≡ k → phase_of E x ≡ phase_of E y → vc E x k < vc E y k
  rise x y k l yl s t p =
      rw (← t) (omega (arith, reach (record_station E y) (phase_of E y) y x (record_station E y) l (omega arith) (s ∙ sym t) p, own-rises y yl))

  -- where a count of another station comes from
  abbrev From : ℕ → ℕ → Type 0
  From y k = (x : ℕ) × Edge E x y × (phase_of E x ≡ phase_of E y) × (vc E y k ≤ vc E x k)

  from_before : (y k : ℕ) → y < length E → zero < get_or (counts_before E y) k 0 → vc E y k ≤ get_or (counts_before E y) k 0 → From y k
  from_before y k yl h le =
      let z = last_found (record_station E y) (phase_of E y) y k h in
      (z.0, stationed z.1 yl z.2, z.3, let q = z.4 in omega arith)

  from : (y k : ℕ) → y < length E → k ≢ record_station E y → zero < vc E y k → From y k
  from y k yl n h =
      by_follows (R.follows y yl) (λ z e. let q = ticked-other y k n e in from_before y k yl (omega arith) (omega arith))
      (λ x xl g p t e. by_dec (dec_le (vc E y k) (vc E x k)) (λ l. (x, messaged g, p, l))
      (λ l. let q = raised_to x y k xl yl n e in from_before y k yl (omega arith) (omega arith)))

  pub clocked : Clocked (length E) (record_station E) (phase_of E) (vc E) (Edge E)
  clocked =
      record {
        up = λ x y e. (edge_says x y e).0;
        ends = λ x y e. (edge_says x y e).1;
        later = λ x y e. (edge_says x y e).2;
        stays = λ x y e. (edge_says x y e).3;
        grow = λ x y e. (edge_says x y e).4;
        local = λ x y l yl e. stationed l yl e;
        rise = rise;
        some = λ y yl. omega (arith, own-rises y yl);
        from = from;
      }

  -- ---- happened-before goes by these edges: an entry's record bears the station that took its step
  pub to_chain : {x y : ℕ} → HappenedBefore E x y → Chain (Edge E) x y
  to_chain (same_station l m e) = edge (stationed l m (sym (follows-station (R.follows _ (omega arith))) ∙ e ∙ follows-station (R.follows _ m)))
  to_chain (sent-received g) = edge (messaged g)
  to_chain (chain h k) = join (to_chain h) (to_chain k)

  pub from_chain : {x y : ℕ} → Chain (Edge E) x y → HappenedBefore E x y
  from_chain (edge (stationed l m e)) = same_station l m (follows-station (R.follows _ (omega arith)) ∙ e ∙ sym (follows-station (R.follows _ m)))
  from_chain (edge (messaged g)) = sent-received g
  from_chain (join h k) = chain (from_chain h) (from_chain k)

  -- it never goes back in phase
  pub never_back : {x y : ℕ} → HappenedBefore E x y → phase_of E x ≤ phase_of E y
  never_back h = chain-later clocked (to_chain h)

  -- happened-before within a phase is timestamp order
  pub by_timestamp : OrderedByTimestamp E
  by_timestamp x y xl yl p =
      let exactly = chain_exactly clocked x y xl yl p in (
        λ h. let c = to_chain h in
            (λ e. omega (arith, chain-rise clocked c p (record_station E y) refl, ap (λ (v : List ℕ). get_or v (record_station E y) 0) e), (exactly.0 c).1),
        λ h. from_chain (exactly.1 (λ q. h.0 (ap (timestamp_of E) q), h.1)),
      )
