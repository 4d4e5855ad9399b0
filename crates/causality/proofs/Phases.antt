-- A station's phase after a list of steps, read from the answers, is its phase in the state after; so where every station has left a phase, no message of
-- that phase is under way. Assumes nothing.
use Prim.Native.Nat.{ℕ, suc, ◌<◌}
use mathlib.Core.Path.{◌≡◌, refl, sym, ap, ◌∙◌}
use mathlib.Core.List.{List, [], ◌∷◌, map}
use native.Mathlib.Omega.{arith}
use lib.Dec.{eqb}
use lib.ListN.{drop, length}
use lib.Seq.{drop-nil}
use borrow.Author.Tests.{eqb-true, eqb-false, ne_eqb}
use Rattle.reset.specs.Config.{Config, neighbours}
use Rattle.reset.specs.Receipts.{reqs_taken}
use Rattle.reset.proofs.ConfigLaws.{Rules}
use Rattle.reset.specs.Clock.{Clock, vector}
use Rattle.reset.specs.State.{Item, message, reset_req, reset_done, Station, State, station_at, link_at}
use Rattle.reset.specs.Steps.{Step, station_of_step, Answer, refused, entry, mode_after, step}
use Rattle.reset.specs.Network.{initial, log, run}
use Rattle.reset.specs.Bears.{Taker}
use Rattle.reset.proofs.StepLaws.{answers_taker}
use Rattle.reset.proofs.Changes.{Tagged, tags, Summary}
use Rattle.reset.proofs.Invariant.{Invariant}
use Rattle.reset.proofs.Summary.{step_keeps, summary}
use Rattle.reset.proofs.Initial.{initial_station_lem, initial-invariant}
use Rattle.causality.specs.HappenedBefore.{Accepted, accepted, is_recv, count}
use Rattle.causality.specs.Sound.{phase_in, phase_from, phase_after, AllLeft}
use Rattle.causality.proofs.Trace.{under_way}
use Rattle.causality.proofs.TracePlain.{messages_of}
use Rattle.causality.proofs.History.{tag_of, run-history}
use Rattle.reset.proofs.Cases.{by_test, clash}

module _ {K : Clock} (c : Config) (i : ℕ) where
  -- one step
  phase_in_lem : (s s' : State K) (p : Step) (a : Answer) → Taker p a → Summary c s p a s'
      → phase_in (eqb (station_of_step p) i) a (station_at s i).phase ≡ (station_at s' i).phase
  phase_in_lem s s' p (refused k) w h = rw h
  phase_in_lem s s' p (entry e) w h =
      rw (← w)
      (by_test (eqb e.station i) (λ q. rw (q, ← eqb-true e.station i q) (h.phase_is ∙ sym h.phase_same))
      (λ q. rw (q, h.others i (λ z. eqb-false _ _ q (sym z)))))
  phase_in_lem s s' p (mode_after j m f) w h =
      rw (← w)
      (by_test (eqb j i) (λ q. rw (q, ← eqb-true j i q) (sym h.phase_is)) (λ q. rw (q, h.others i (λ z. eqb-false _ _ q (sym z)))))

  phase_from_lem : Rules c → (s : State K) → Invariant c s → (ps : List Step) → phase_from i (station_at s i).phase (log c s ps) ≡ (station_at (run c s ps) i).phase
  phase_from_lem u s v [] = refl
  phase_from_lem u s v (p ∷ ps) =
      ap (λ (f : ℕ). phase_from i f (log c (step c s p).after ps)) (phase_in_lem s (step c s p).after p (step c s p).answer (answers_taker c s p) (summary c u s v p))
      ∙ phase_from_lem u (step c s p).after (step_keeps c u s v p) ps

-- after every list of steps from the initial network
pub phase_after_lem : (K : Clock) (c : Config) → Rules c → (i : ℕ) → i < c.n → (ps : List Step)
    → phase_after i (log c (initial K c) ps) ≡ (station_at (run c (initial K c) ps) i).phase
phase_after_lem K c u i l ps =
    ap (λ (f : ℕ). phase_from i f (log c (initial K c) ps)) (ap (λ (x : Station K). x.phase) (sym (initial_station_lem K c i (omega (arith, u.small)))))
    ∙ phase_from_lem c i u (initial K c) (initial-invariant K c u) ps

-- ---- a phase that every station has left
-- of messages that lie in phase r and later, none is of a phase below
none_below : (f : ℕ) (l : List Accepted) (r : ℕ) (q : List (Item vector)) → map tag_of l ≡ tags r q → f < r → messages_of f l ≡ []
none_below f [] r q e h = refl
none_below f (x ∷ l) r [] e h = clash (cc)
none_below f (x ∷ l) r (message w g ∷ q) e h =
    let y : tag_of x ≡ record { phase = r; load = w; register = g } = cc in
    let t : map tag_of l ≡ tags r q = cc in
    let p : x.entry.phase ≡ r = ap (λ (z : Tagged vector). z.phase) y in
    rw (ne_eqb x.entry.phase f (λ z. omega arith)) (none_below f l r q t h)
none_below f (x ∷ l) r (reset_req ∷ q) e h = none_below f (x ∷ l) (suc r) q e (omega arith)
none_below f (x ∷ l) r (reset_done ∷ q) e h = none_below f (x ∷ l) r q e h

module _ (c : Config) (u : Rules c) (ps : List Step) where
  pub none_under_way : (f : ℕ) → AllLeft c.n f (log c (initial vector c) ps) → (a b : ℕ)
      → let E = accepted (log c (initial vector c) ps) in messages_of f (under_way E a b (length E)) ≡ []
  none_under_way f left a b =
      let s = run c (initial vector c) ps in
      let E = accepted (log c (initial vector c) ps) in
      by_test (neighbours c a b)
      (λ n. let l = u.inside a b n in
      let h : f < (station_at s b).phase = rw (← phase_after_lem vector c u b l ps) (left b l) in
      none_below f (under_way E a b (length E)) (reqs_taken (station_at s b) a) (link_at s a b) ((run-history c u ps).links a b n) (omega arith))
      (λ n. ap (messages_of f) (ap (drop (count (is_recv a b) E (length E))) ((run-history c u ps).unlinked a b n) ∙ drop-nil (count (is_recv a b) E (length E))))
