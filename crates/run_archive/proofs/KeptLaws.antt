-- The archive of a run is well kept. Assumes nothing.
use Prim.Native.Nat.{ℕ, zero, suc, ◌+◌, ◌-◌, min, ◌≤◌, ◌<◌}
use mathlib.Core.Path.{◌≡◌, refl, sym, ◌∙◌}
use mathlib.Core.Logic.{◌↔◌}
use mathlib.Core.List.{List}
use mathlib.Core.Bool.{true}
use native.Mathlib.Omega.{arith}
use lib.Dec.{eqb}
use lib.ListN.{length}
use borrow.Author.Tests.{eqb-true, eq-eqb}
use Rattle.codec.specs.Every.{count_below}
use Rattle.codec.proofs.EveryLaws.{both, join, every_of}
use Rattle.codec.proofs.CountLaws.{count_room}
use Rattle.events.specs.Events.{own_at}
use Rattle.well_kept.specs.WellKept.{bears, bearers, kept_up_to, well_kept}
use Rattle.causality.specs.Plain.{Message}
use Rattle.causality.specs.HappenedBefore.{Accepted, entry_at, phase_of}
use Rattle.causality.proofs.Trace.{record_station, is_of, entries_before, Trace}
use Rattle.causality.proofs.TraceOrder.{is_of_lem, of_is, own-counts}
use Rattle.run_archive.proofs.EventLaws.{Holds, station_is, own_is}
use Rattle.reset.proofs.Cases.{by_test, clash}

module _ {a : List ℕ} {E : List Accepted} {T : List (List Message)} (H : Holds a E) (R : Trace E T) where
  -- a record's own count is 1 more than its station and phase have entries before it
  own_of : (s f k : ℕ) → k < length E → record_station E k ≡ s → phase_of E k ≡ f → own_at a k ≡ suc (entries_before E s f k)
  own_of s f k l p q = rw (← p, ← q) (own_is H k l ∙ own-counts E T R k l)

  -- so it bears count c + 1 where there are c of them
  bears_is : (s f c k : ℕ) → k < length E → (bears a s f (c + 1) k ≡ true) ↔ ((is_of s f (entry_at E k) ≡ true) × (entries_before E s f k ≡ c))
  unfolding bears
  bears_is s f c k l =
      rw (station_is H k l, H.event k l) (
        λ h.
            let (p, r) = both (eqb (record_station E k) s) _ h in
            let (q, t) = both (eqb (phase_of E k) f) _ r in
            let e : record_station E k ≡ s = eqb-true _ _ p in
            let g : phase_of E k ≡ f = eqb-true _ _ q in
            (is_of_lem E s f k e g, omega (arith, own_of s f k l e g, eqb-true (own_at a k) (c + 1) t)),
        λ (h, n). let (p, q) = of_is E s f k h in
            join (eqb (record_station E k) s) _ (eq-eqb _ _ p) (join (eqb (phase_of E k) f) _ (eq-eqb _ _ q) (eq-eqb (own_at a k) (c + 1) (omega (arith, own_of s f k l p q)))),
      )

  -- and of the first m records one does, or none
  bearers-below : (s f c m : ℕ) → m ≤ length E → count_below m (bears a s f (c + 1)) ≡ min 1 (entries_before E s f m - c)
  unfolding count_below
  bearers-below s f c zero l = omega arith
  bearers-below s f c (suc m) l =
      let i = bearers-below s f c m (omega arith) in
      let b = bears_is s f c m l in
      by_test (bears a s f (c + 1) m) (λ e. let (h, q) = b.0 e in rw (e, h) (omega arith))
      (λ e. by_test (is_of s f (entry_at E m)) (λ h. let n : entries_before E s f m ≡ c → ⊥ = λ q. clash (sym (b.1 (h, q)) ∙ e) in rw (e, h) (omega arith)) (λ h. rw (e, h) i))

  one_bearer : (k c : ℕ) → k < length E → c < own_at a k → count_below (length E) (bears a (record_station E k) (phase_of E k) (c + 1)) ≡ 1
  one_bearer k c l d =
      let s = record_station E k in
      let f = phase_of E k in
      let n = count_room (λ (x : ℕ). is_of s f (entry_at E x)) k (length E) (entries_before E s f (length E)) (is_of_lem E s f k refl refl) l (omega arith) in
      omega (arith, bearers-below s f c (length E) (omega arith), own_of s f k l refl refl)

  -- The own counts of a station in a phase are 1, 2, 3 .., each once.
  pub kept : well_kept a ≡ true
  unfolding well_kept kept_up_to bearers
  kept =
      rw H.many
      (every_of (length E) (kept_up_to a)
      (λ k l. rw (H.many, station_is H k l, H.event k l) (every_of (own_at a k) _ (λ c d. eq-eqb _ _ (one_bearer k c l d)))))
