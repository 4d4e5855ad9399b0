-- From a network that steps have reached, receipts alone empty the links after exactly the number of receipts to rest, in whichever order. Assumes nothing.
use Prim.Native.Nat.{ℕ, ◌+◌, ◌≤◌, ◌<◌}
use mathlib.Core.Path.{◌≡◌, refl, sym, ap, ◌∙◌}
use mathlib.Core.Logic.{◌≢◌, ◌↔◌}
use mathlib.Core.List.{List, [], ◌∷◌}
use mathlib.Core.Bool.{true, false}
use native.Mathlib.Omega.{arith}
use native.Mathlib.Decide.{dec_lt}
use lib.ListN.{length}
use borrow.Author.Tests.{eq-eqb, eqb-false, lt-ltb}
use Rattle.codec.specs.Every.{every}
use Rattle.codec.proofs.EveryLaws.{join, every_of}
use Rattle.reset.specs.Config.{Config, is_station, neighbours, network_rules}
use Rattle.reset.specs.Clock.{Clock, vector}
use Rattle.reset.specs.State.{Item, message, reset_req, reset_done, State, link_at}
use Rattle.reset.specs.Steps.{Step, enter, send, recv, start, Answer, refused, entry, mode_after, Outcome, guard, in_bounds, bounded, receive, step}
use Rattle.reset.specs.Network.{initial, log, run, link_empty, links_empty, stations_quiescent, quiescent}
use Rattle.reset.specs.Receipts.{greatest_target, receipts_to_rest, Receipts, is_accepted, accepted_in, CanReceive, Settling, ExactReceipts}
use Rattle.reset.proofs.ReachLaws.{every_finds}
use Rattle.reset.proofs.ConfigLaws.{Rules, rules, all_reached}
use Rattle.reset.proofs.StepLaws.{refused-leaves}
use Rattle.reset.proofs.Coherent.{Coherent, initial-coherent, step_coherent}
use Rattle.reset.proofs.RestLaws.{quiescent_parts, quiescent_of}
use Rattle.reset.proofs.Books.{Books}
use Rattle.reset.proofs.NeverBeyond.{Known, safe_step, initial-books}
use Rattle.reset.proofs.Taken.{step_takes, taken_from_initial}
use Rattle.reset.proofs.Lowers.{FromOne, receipt_lowers}
use Rattle.reset.proofs.Emptied.{emptied-normal, emptied-phase, none_to_rest}
use Rattle.reset.proofs.Cases.{by_test, by_dec, clash}

not-accepted : (w : Answer) → is_accepted w ≡ false → (k : ℕ) × (w ≡ refused k)
not-accepted (refused k) h = (k, refl)
not-accepted (entry e) h = clash h
not-accepted (mode_after i m p) h = clash h

module _ (c : Config) (u : Rules c) (r : network_rules c ≡ true) where
  -- ---- what holds in every state that steps have reached
  record Sound (s : State vector) : Type 0 where
    coherent : Coherent c s
    books : Books c s
    counted : FromOne c s

  step_sound : (s : State vector) → Sound s → (p : Step) → Sound (step c s p).after
  step_sound s h p =
      record {
        coherent = step_coherent c u s h.coherent p;
        books = (safe_step c u r s h.coherent.invariant h.books p).books;
        counted = λ a b n. omega (arith, h.counted a b n, step_takes c u s h.coherent.invariant p a b n);
      }

  run_sound : (s : State vector) → Sound s → (ps : List Step) → Sound (run c s ps)
  run_sound s h [] = h
  run_sound s h (p ∷ ps) = run_sound (step c s p).after (step_sound s h p) ps

  initial-sound : Sound (initial vector c)
  initial-sound = record { coherent = initial-coherent c u; books = initial-books c u; counted = λ a b n. omega (arith, taken_from_initial vector c u [] a b n) }

  -- ---- an item can be received
  module _ (s : State vector) (h : Sound s) where
    -- no bound is met
    met_none : (o : Outcome vector) → is_accepted o.answer ≡ true → Known (bounded c s o).answer → is_accepted (bounded c s o).answer ≡ true
    unfolding bounded guard
    met_none o a k = by_test (in_bounds c o.after) (λ e. rw e a) (λ e. let z : (4 ≤ 2) × (2 ≤ 8) = rw e at k in absurd (omega (arith, z.0)))

    taken : (i j : ℕ) (y : Item vector) (q : List (Item vector)) → Known (receive c i j s (y ∷ q)).answer → is_accepted (receive c i j s (y ∷ q)).answer ≡ true
    taken i j (message w g) q k = met_none _ refl k
    taken i j reset_req q k = met_none _ refl k
    taken i j reset_done q k = met_none _ refl k

    accepts : (i j : ℕ) → neighbours c i j ≡ true → (l : List (Item vector)) → link_at s j i ≡ l → l ≢ [] → is_accepted (step c s (recv i j)).answer ≡ true
    unfolding guard is_station
    accepts i j ij [] e n = absurd (n refl)
    accepts i j ij (y ∷ q) e n =
        let si = lt-ltb i c.n (u.inside j i (u.both_ways i j ij)) in
        rw (si, ij, e) (taken i j y q (rw (si, ij, e) at (safe_step c u r s h.coherent.invariant h.books (recv i j)).known))

    -- so where some link holds one, a receipt is accepted
    can_receive : links_empty s ≡ false → CanReceive c s
    unfolding links_empty
    can_receive f =
        let a = every_finds 8 (λ (i : ℕ). every 8 (link_empty s i)) f in
        let j : ℕ = a.0 in
        let b = every_finds 8 (link_empty s j) a.2 in
        let i : ℕ = b.0 in
        let held : link_at s j i ≢ [] = λ e. eqb-false (length (link_at s j i)) 0 b.2 (ap length e) in
        by_test (neighbours c j i) (λ n. (i, j, accepts i j (u.both_ways j i n) (link_at s j i) refl held)) (λ n. absurd (held (h.books.unlinked j i n)))

    empties_none : links_empty s ≡ true → receipts_to_rest c s ≡ 0
    empties_none e = none_to_rest c u s h.coherent e (all_reached c r)

    some_left : CanReceive c s → receipts_to_rest c s ≡ 0 → ⊥
    some_left t z =
        let k = (receipt_lowers c u s h.coherent.invariant h.counted (recv t.0 t.1) tt t.2).one_less in
        omega (arith, k, z)

    none_empties : receipts_to_rest c s ≡ 0 → links_empty s ≡ true
    none_empties z = by_test (links_empty s) (λ e. e) (λ e. absurd (some_left (can_receive e) z))

  -- ---- lists of receipts
  -- each that is accepted is one of the number
  run_lowers : (s : State vector) → Sound s → (qs : List Step) → Receipts qs
      → (greatest_target c (run c s qs) ≡ greatest_target c s) × (accepted_in (log c s qs) + receipts_to_rest c (run c s qs) ≡ receipts_to_rest c s)
  run_lowers s h [] q = (refl, omega arith)
  run_lowers s h (enter i g ∷ qs) q = absurd q
  run_lowers s h (send i j g ∷ qs) q = absurd q
  run_lowers s h (start i ∷ qs) q = absurd q
  run_lowers s h (recv i j ∷ qs) q =
      let k = run_lowers (step c s (recv i j)).after (step_sound s h (recv i j)) qs q in
      by_test (is_accepted (step c s (recv i j)).answer)
      (λ e. let l = receipt_lowers c u s h.coherent.invariant h.counted (recv i j) tt e in
      (k.0 ∙ l.top, rw e (omega (arith, k.1, l.one_less))))
      (λ e. let w = not-accepted (step c s (recv i j)).answer e in
      let l = refused-leaves c s (recv i j) w.0 w.1 in
      (k.0 ∙ ap (greatest_target c) l, rw e (omega (arith, k.1, ap (receipts_to_rest c) l))))

  settling : (s : State vector) → Sound s → (qs : List Step) → Receipts qs → Settling c s qs
  settling s h qs q =
      let s' = run c s qs in
      let h' = run_sound s h qs in
      let k = run_lowers s h qs q in
      let left : accepted_in (log c s qs) + receipts_to_rest c s' ≡ receipts_to_rest c s = k.1 in
      let goes_on : accepted_in (log c s qs) < receipts_to_rest c s → CanReceive c s' =
      λ l. by_test (links_empty s') (λ e. absurd (omega (arith, left, empties_none s' h' e, l))) (can_receive s' h') in
      let empty : accepted_in (log c s qs) ≡ receipts_to_rest c s → links_empty s' ≡ true = λ e. none_empties s' h' (omega (arith, left, e)) in
      record {
        at_most = omega (arith, left);
        not_stuck = goes_on;
        no_shorter = λ n. by_dec (dec_lt (accepted_in (log c s qs)) (receipts_to_rest c s)) (λ l. absurd (n (goes_on l))) (λ l. omega (arith, left, l));
        empties = (λ e. omega (arith, left, empties_none s' h' e), empty);
        settled = λ e i il. (
          emptied-normal c u s' h'.coherent (empty e) i il,
          emptied-phase c u s' h'.coherent (empty e) (all_reached c r) i il ∙ k.0,
        );
      }

pub exact_receipts : ExactReceipts
exact_receipts c m r ps qs q = let u = rules c m r in settling c u r _ (run_sound c u r _ (initial-sound c u r) ps) qs q

-- then rest is yes, and not before
pub settled-quiescent : {K : Clock} (c : Config) (s : State K) (qs : List Step) → Settling c s qs → (quiescent c (run c s qs) ≡ true) ↔ (accepted_in (log c s qs) ≡ receipts_to_rest c s)
unfolding stations_quiescent
settled-quiescent c s qs k = (λ h. k.empties.0 (quiescent_parts c _ h).1, λ e. quiescent_of c _ (stations e) (k.empties.1 e))
  where
    stations : accepted_in (log c s qs) ≡ receipts_to_rest c s → stations_quiescent c (run c s qs) ≡ true
    stations e =
        join _ _ (every_of c.n _ (λ i il. rw (k.settled e i il).0))
        (every_of c.n _ (λ i il. eq-eqb _ _ ((k.settled e i il).1 ∙ sym (k.settled e 0 (omega (arith, il))).1)))
