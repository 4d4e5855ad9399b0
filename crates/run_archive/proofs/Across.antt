-- Between phases the archive of a run tells happened-before: a record precedes another of a later phase exactly where its entry happened before the other's.
-- Assumes nothing.
use Prim.Native.Nat.{ℕ, zero, suc, ◌+◌, ◌-◌, ◌≤◌, ◌<◌}
use mathlib.Core.Path.{◌≡◌, refl, sym, ◌∙◌}
use mathlib.Core.Logic.{◌↔◌, inl, inr, ⊎_elim}
use mathlib.Core.List.{List}
use mathlib.Core.Bool.{Bool, true, ◌&&◌}
use native.Mathlib.Omega.{arith}
use native.Mathlib.Decide.{ℕ_discrete}
use lib.Dec.{eqb, ltb}
use lib.ListN.{length, get_or}
use borrow.Author.Tests.{eq-eqb, eqb-true, le-leb, leb-true, lt-ltb, ltb-true, ltb-false}
use Rattle.codec.proofs.EveryLaws.{both, join}
use Rattle.record.specs.declared.Record.{Record}
use Rattle.events.specs.Events.{own_at}
use Rattle.phase_order.specs.PhaseOrder.{is_of, last_among, last_timestamp, reached_first, knows, reached_next, reached, precedes}
use Rattle.reset.proofs.Views.{zeros_at}
use Rattle.codec.proofs.SomeLaws.{some_of, some_holds}
use Rattle.reset.proofs.Cases.{by_test, by_dec, clash}
use Rattle.causality.specs.Plain.{Message}
use Rattle.causality.specs.HappenedBefore.{Accepted, entry_at, phase_of, timestamp_of, HappenedBefore}
use Rattle.causality.proofs.Trace.{record_station, Trace}
use Rattle.causality.proofs.Between.{ReachedBefore, LastCounts, still_reached, after_exactly, reached_first_lem, reached_next_lem}
use Rattle.causality.proofs.TraceOrder.{Edge, vc, clocked, to_chain, from_chain}
use Rattle.step_parts.specs.Answers.{event_record}
use Rattle.run_archive.proofs.EventLaws.{Holds, station_is, own_is}

-- a timestamp has a count above 0 for a station of the set
knows_is : (r : ℕ → Bool) (v : List ℕ) → (knows r v ≡ true) ↔ ((k : ℕ) × (k < 8) × (r k ≡ true) × (zero < get_or v k 0))
unfolding knows
knows_is r v = (
  λ h. let (k, l, e) = some_holds 8 _ h in let (p, q) = both (r k) _ e in (k, l, p, omega (arith, leb-true _ (get_or v k 0) q)),
  λ (k, l, p, q). some_of 8 _ k l (join (r k) _ p (le-leb _ (get_or v k 0) (omega arith))),
)

module _ {a : List ℕ} {E : List Accepted} (H : Holds a E) where
  -- record k is of station s in phase f
  of_entry : (s f k : ℕ) → k < length E → (is_of a s f k ≡ true) ↔ ((record_station E k ≡ s) × (phase_of E k ≡ f))
  unfolding is_of
  of_entry s f k l =
      rw (station_is H k l, H.event k l) (
        λ h. let (p, q) = both (eqb (record_station E k) s) _ h in (eqb-true _ _ p, eqb-true _ _ q),
        λ (p, q). join (eqb (record_station E k) s) _ (eq-eqb _ _ p) (eq-eqb _ _ q),
      )

  -- ---- the last timestamp is the last counts
  last_among_lem : (s f m : ℕ) → m ≤ length E → LastCounts m (record_station E) (phase_of E) (vc E) s f (λ (k : ℕ). get_or (last_among a s f m) k 0)
  unfolding last_among
  last_among_lem s f zero l = record { greatest = λ x xl. absurd (omega arith); of_one_lem = λ k h. absurd (omega (arith, zeros_at k)) }
  last_among_lem s f (suc m) l =
      let L = last_among_lem s f m (omega arith) in
      let t = of_entry s f m l in
      let o : ℕ = get_or (last_among a s f m) s 0 in
      by_test (is_of a s f m && ltb o (own_at a m))
      (λ e. let (p, q) = both (is_of a s f m) _ e in
      let (u, v) = t.0 p in
      let g : o < vc E m s = omega (arith, ltb-true o (own_at a m) q, rw u at (own_is H m l)) in
      rw (e, H.event m l) (record {
        greatest = λ x xl y z. by_dec (ℕ_discrete x m) (λ w. rw w (omega arith)) (λ w. omega (arith, L.greatest x (omega arith) y z));
        of_one_lem = λ k h. (m, omega arith, u, v, λ j. refl);
      }))
      (λ e. rw e (record {
        greatest = λ x xl y z. by_dec (ℕ_discrete x m)
            (λ w. let u : record_station E m ≡ s = rw w at y in
            by_test (ltb o (own_at a m)) (λ h. clash (sym (join (is_of a s f m) _ (t.1 (u, rw w at z)) h) ∙ e))
            (λ h. rw w (omega (arith, ltb-false o (own_at a m) h, rw u at (own_is H m l))))) (λ w. L.greatest x (omega arith) y z);
        of_one_lem = λ k h. let (y, yl, u, v, w) = L.of_one_lem k h in (y, omega arith, u, v, w);
      }))

  last_is : (s f : ℕ) → LastCounts (length E) (record_station E) (phase_of E) (vc E) s f (λ (k : ℕ). get_or (last_timestamp a s f) k 0)
  last_is s f = rw H.many (last_among_lem s f (length E) (omega arith))

  module _ {T : List (List Message)} (R : Trace E T) where
    -- ---- the stations reached
    abbrev Reached : ℕ → ℕ → ℕ → Type 0
    Reached = ReachedBefore (length E) (record_station E) (phase_of E) (Edge E)

    below_eight : {x f k : ℕ} → Reached x f k → k < 8
    below_eight Q = rw (← Q.stationed) (R.small Q.y Q.inside)

    on : {x f g k : ℕ} → f ≤ g → Reached x f k → Reached x g k
    on = still_reached (clocked E T R)

    module _ (x : ℕ) (xl : x < length E) where
      -- the event of entry x
      abbrev this : Record
      this = event_record (entry_at E x).entry

      -- those reached by it before the phase that is 1 + d behind its own
      reached_is : (d s : ℕ) → (reached a this d s ≡ true) ↔ Reached x (phase_of E x + 1 + d) s
      unfolding reached reached_first reached_next
      reached_is zero s =
          let r = reached_first_lem (clocked E T R) x s _ xl (last_is s (phase_of E x)) in
          (λ h. on (omega arith) (r.1 (leb-true _ _ h)), λ Q. le-leb _ _ (r.0 (on (omega arith) Q)))
      reached_is (suc d) s =
          let f : ℕ = phase_of E x + 1 + d in
          let r = reached_next_lem (clocked E T R) x s f _ (omega arith) (last_is s f) in
          let i = reached_is d in (
            λ h. on (omega arith) (r.1 (by_test (reached a this d s) (λ e. inl ((i s).0 e))
                (λ e. let (k, kl, p, q) = (knows_is (reached a this d) (last_timestamp a s f)).0 (rw e at h) in inr (k, (i k).0 p, q)))),
            λ Q. by_test (reached a this d s) (λ e. rw e)
                (λ e. ⊎_elim (λ P. clash (sym ((i s).1 P) ∙ e))
                (λ (k, P, q). rw e ((knows_is (reached a this d) (last_timestamp a s f)).1 (k, below_eight P, (i k).1 P, q)))
                (r.0 (on (omega arith) Q))),
          )

      -- Record x precedes record y exactly where it is of a lower phase and happened before it.
      pub precedes_is : (y : ℕ) → y < length E → (precedes a this (event_record (entry_at E y).entry) ≡ true) ↔ ((phase_of E x < phase_of E y) × HappenedBefore E x y)
      unfolding precedes
      precedes_is y yl =
          let d : ℕ = phase_of E y - (phase_of E x + 1) in
          let v = after_exactly (clocked E T R) x y yl in (
            λ h.
                let (p, q) = both (ltb (phase_of E x) (phase_of E y)) _ h in
                let l : phase_of E x < phase_of E y = ltb-true _ _ p in
                let (k, kl, u, w) = (knows_is (reached a this d) (timestamp_of E y)).0 q in
                (l, from_chain E T R ((v l).1 (k, on (omega arith) ((reached_is d k).0 u), w))),
            λ (l, h).
                let (k, Q, w) = (v l).0 (to_chain E T R h) in
                join (ltb (phase_of E x) (phase_of E y)) _ (lt-ltb _ _ l) ((knows_is (reached a this d) (timestamp_of E y)).1 (k, below_eight Q, (reached_is d k).1 (on (omega arith) Q), w)),
          )
