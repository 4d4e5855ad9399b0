-- What changes leave of the number of receipts to rest: what stations have taken, the messages under way, and the greatest target. The reset rules leave
-- all of it; and what is read off a station's record is what it has received. Assumes nothing.
use Prim.Native.Nat.{ℕ, suc, ◌+◌, ◌≤◌, ◌<◌}
use mathlib.Core.Path.{◌≡◌, refl, sym, ap, ◌∙◌}
use mathlib.Core.Logic.{◌≢◌}
use mathlib.Core.List.{List, [], ◌∷◌}
use mathlib.Core.Bool.{true, ◌&&◌, and-false}
use native.Mathlib.Omega.{arith}
use native.Mathlib.Decide.{ℕ_discrete}
use lib.Dec.{eqb}
use borrow.Author.Tests.{eq-eqb, ne_eqb}
use Rattle.codec.proofs.EveryLaws.{both}
use Rattle.codec.proofs.PutLaws.{put_same}
use Rattle.codec.proofs.SumLaws.{greatest_at, greatest-below}
use Rattle.codec.proofs.SomeLaws.{some_holds}
use Rattle.reset.specs.Config.{Config, neighbours}
use Rattle.reset.specs.Clock.{Clock, vector}
use Rattle.reset.specs.State.{Item, reset_req, reset_done, Station, State, station_at, link_at, req_seen, set_station, set_link}
use Rattle.reset.specs.Steps.{some_neighbour, Rule, rule_a, rule_b, rule_c, no_rule, rule_of, applied, apply, turn_once, turn, Step, enter, send, recv, start, refused, Outcome, with_req, with_done, do_mark, step}
use Rattle.reset.specs.Network.{initial, log, run}
use Rattle.reset.specs.Receipts.{muted, bit, target, greatest_target, messages, reqs_taken, dones_taken, control_of, controls_in, ControlsTold}
use Rattle.reset.proofs.ConfigLaws.{Rules, rules, station-below, neighbour-small}
use Rattle.reset.proofs.Views.{none_at, station-set, station-set_link}
use Rattle.reset.proofs.TurnLaws.{Tested, rule_tested, station-apply}
use Rattle.reset.proofs.Changes.{Tagged}
use Rattle.reset.proofs.Flow.{flow-reqs, messages-append}
use Rattle.reset.proofs.Invariant.{Invariant, Puts, TakesOff}
use Rattle.reset.proofs.Keeps.{puts_begin, puts_renew, puts_wake, begin_keeps, turn_once_keeps, puts_enter, puts_send, takes_message, req_new, takes_req, done_new, takes_done, req_keeps, done_keeps}
use Rattle.reset.proofs.StepLaws.{of_step}
use Rattle.reset.proofs.Summary.{step_keeps}
use Rattle.reset.proofs.Initial.{initial_station_lem, initial-invariant}
use Rattle.reset.proofs.Cases.{by_test, by_dec}

-- ---- the greatest target
module _ {K : Clock} (c : Config) (s : State K) where
  pub target_at-most : (i : ℕ) → i < c.n → target (station_at s i) ≤ greatest_target c s
  unfolding greatest_target
  target_at-most i l = let k : _ ≤ greatest_target c s = greatest_at c.n _ i l in omega (arith, k)

  pub greatest_target-below : (b : ℕ) → ((i : ℕ) → i < c.n → target (station_at s i) ≤ b) → greatest_target c s ≤ b
  unfolding greatest_target
  greatest_target-below b h = greatest-below c.n _ b (λ i l. omega (arith, h i l))

-- station i alone changes; its target does not fall, nor pass the greatest
pub greatest-stays : {K : Clock} (c : Config) (s s' : State K) (i : ℕ) → i < c.n → ((k : ℕ) → k ≢ i → station_at s' k ≡ station_at s k)
    → target (station_at s i) ≤ target (station_at s' i) → target (station_at s' i) ≤ greatest_target c s → greatest_target c s' ≡ greatest_target c s
greatest-stays c s s' i il os up un =
    let a = greatest_target-below c s' (greatest_target c s) (λ k l. by_dec (ℕ_discrete k i) (λ p. rw p un) (λ p. rw (os k p) (target_at-most c s k l))) in
    let b = greatest_target-below c s (greatest_target c s')
    (λ k l. by_dec (ℕ_discrete k i) (λ p. rw p (omega (arith, up, target_at-most c s' i il))) (λ p. rw (← os k p) (target_at-most c s' k l))) in
    omega (arith, a, b)

-- ---- a change by which nothing is taken
-- each station's control items taken stay
pub record Untaken {K : Clock} (c : Config) (s s' : State K) : Type 0 where
  pub reqs : (a b : ℕ) → neighbours c a b ≡ true → reqs_taken (station_at s' a) b ≡ reqs_taken (station_at s a) b
  pub dones : (a b : ℕ) → neighbours c a b ≡ true → dones_taken (station_at s' a) b ≡ dones_taken (station_at s a) b

-- and the messages under way and the greatest target stay
pub record Still {K : Clock} (c : Config) (s s' : State K) : Type 0 where
  pub untaken : Untaken c s s'
  pub as_many : (a b : ℕ) → messages (link_at s' a b) ≡ messages (link_at s a b)
  pub top : greatest_target c s' ≡ greatest_target c s

still_same : {K : Clock} (c : Config) (s : State K) → Still c s s
still_same c s = record { untaken = record { reqs = λ a b h. refl; dones = λ a b h. refl }; as_many = λ a b. refl; top = refl }

still_then : {K : Clock} (c : Config) {s s' s'' : State K} → Still c s s' → Still c s' s'' → Still c s s''
still_then c k l =
    record {
      untaken = record { reqs = λ a b h. l.untaken.reqs a b h ∙ k.untaken.reqs a b h; dones = λ a b h. l.untaken.dones a b h ∙ k.untaken.dones a b h };
      as_many = λ a b. l.as_many a b ∙ k.as_many a b;
      top = l.top ∙ k.top;
    }

-- ---- items put
module _ {K : Clock} (c : Config) (i : ℕ) (s s' : State K) (out : ℕ → List (Item K)) (m : Puts c i s s' out) where
  pub puts_untaken : Untaken c s s'
  puts_untaken =
      record {
        reqs = λ a b h. by_dec (ℕ_discrete a i) (λ p. rw p (m.head-reqs b (rw p at h))) (λ p. rw (m.others a p));
        dones = λ a b h. by_dec (ℕ_discrete a i) (λ p. rw p (m.head-dones b (rw p at h))) (λ p. rw (m.others a p));
      }

  puts_as_many : ((b : ℕ) → messages (out b) ≡ 0) → (a b : ℕ) → messages (link_at s' a b) ≡ messages (link_at s a b)
  puts_as_many z a b =
      by_dec (ℕ_discrete a i)
      (λ p. rw p (by_test (neighbours c i b) (λ h. rw (m.onto b h) (omega (arith, messages-append (link_at s i b) (out b), z b))) (λ h. rw (m.apart b h))))
      (λ p. rw (m.kept a b p))

  puts_still : ((b : ℕ) → messages (out b) ≡ 0) → i < c.n → target (station_at s i) ≤ target (station_at s' i) → target (station_at s' i) ≤ greatest_target c s → Still c s s'
  puts_still z il up un = record { untaken = puts_untaken; as_many = puts_as_many z; top = greatest-stays c s s' i il m.others up un }

-- ---- the reset rules
module _ {K : Clock} (c : Config) (u : Rules c) (i : ℕ) (il : i < c.n) (s : State K) (v : Invariant c s) where
  -- rule c: the neighbour whose req is seen aims at the next phase already
  next_aimed_at : some_neighbour c i (req_seen (station_at s i)) ≡ true → (station_at s i).phase + 1 ≤ greatest_target c s
  unfolding some_neighbour
  next_aimed_at h =
      let t = some_holds 8 (λ (j : ℕ). neighbours c i j && req_seen (station_at s i) j) h in
      let j : ℕ = t.0 in
      let e = both (neighbours c i j) (req_seen (station_at s i) j) t.2 in
      let k : (station_at s i).phase + 1 ≤ target (station_at s j) = rw e.1 at (flow-reqs _ _ _ (link_at s j i) _ _ (v.flow j i (u.both_ways i j e.0))) in
      omega (arith, k, target_at-most c s j (u.inside i j e.0))

  -- the record after a rule aims no lower than the one before, and at most at the greatest target
  aims : (r : Rule) → Tested c i (station_at s i) r
      → (target (station_at s i) ≤ target (applied (station_at s i) r)) × (target (applied (station_at s i) r) ≤ greatest_target c s)
  aims rule_a t = let a = target_at-most c s i il in let d = ap muted t.0 in (omega arith, omega arith)
  aims rule_b t = let a = target_at-most c s i il in let d = ap muted t.0 in (omega arith, omega arith)
  aims rule_c t = let a = next_aimed_at t.1 in let d = ap muted t.0 in (omega arith, omega arith)
  aims no_rule t = (omega arith, target_at-most c s i il)

  rule_still : (r : Rule) → Tested c i (station_at s i) r → Still c s (apply c i s r)
  rule_still r t = go r t (rw (station-apply c i s r) (aims r t).0) (rw (station-apply c i s r) (aims r t).1)
    where
      go : (r : Rule) → Tested c i (station_at s i) r → target (station_at s i) ≤ target (station_at (apply c i s r) i) → target (station_at (apply c i s r) i) ≤ greatest_target c s
          → Still c s (apply c i s r)
      go rule_a t a b = puts_still c i s _ _ (puts_renew c u i s t.0 t.1) (λ b. refl) il a b
      go rule_b t a b = puts_still c i s _ _ (puts_wake c u i s t.0 t.1) (λ b. refl) il a b
      go rule_c t a b = puts_still c i s _ _ (puts_begin c u i s t.0 v) (λ b. refl) il a b
      go no_rule t a b = still_same c s

  pub turn_once_still : Still c s (turn_once c i s)
  unfolding turn_once
  turn_once_still = rule_still (rule_of c i (station_at s i)) (rule_tested c i (station_at s i))

pub turn_still : {K : Clock} (c : Config) → Rules c → (i : ℕ) → i < c.n → (s : State K) → Invariant c s → Still c s (turn c i s)
unfolding turn
turn_still c u i il s v =
    let v₁ = (turn_once_keeps c u i s v).inv in
    let v₂ = (turn_once_keeps c u i _ v₁).inv in
    still_then c (still_then c (turn_once_still c u i il s v) (turn_once_still c u i il _ v₁)) (turn_once_still c u i il _ v₂)

-- ---- an item taken: station i takes x off its link from j, and what is taken from others stays
module _ {K : Clock} (c : Config) (i j : ℕ) (s s' : State K) (x : Item K) (q : List (Item K)) (taken : List (Tagged K)) (m : TakesOff c i j s s' x q taken) where
  pub takes_reqs : (a b : ℕ) → (a ≡ i → b ≡ j → ⊥) → reqs_taken (station_at s' a) b ≡ reqs_taken (station_at s a) b
  takes_reqs a b n = by_dec (ℕ_discrete a i) (λ p. rw (p, m.req-other b (n p), m.phase_same)) (λ p. rw (m.others a p))

  pub takes_dones : (a b : ℕ) → (a ≡ i → b ≡ j → ⊥) → dones_taken (station_at s' a) b ≡ dones_taken (station_at s a) b
  takes_dones a b n = by_dec (ℕ_discrete a i) (λ p. rw (p, m.done-other b (n p), m.phase_same, m.mode_same)) (λ p. rw (m.others a p))

-- the record after a control item has one taken more
module _ {K : Clock} (c : Config) (u : Rules c) (s : State K) (v : Invariant c s) (i j : ℕ) (ij : neighbours c i j ≡ true) (q : List (Item K)) where
  pub req-counts : link_at s j i ≡ reset_req ∷ q
      → reqs_taken (with_req j (station_at s i)) j + dones_taken (with_req j (station_at s i)) j ≡ suc (reqs_taken (station_at s i) j + dones_taken (station_at s i) j)
  req-counts held = rw put_same (omega (arith, req_new c u s v i j ij q held))

  pub done-counts : link_at s j i ≡ reset_done ∷ q
      → reqs_taken (with_done j (station_at s i)) j + dones_taken (with_done j (station_at s i)) j ≡ suc (reqs_taken (station_at s i) j + dones_taken (station_at s i) j)
  done-counts held = rw put_same (omega (arith, done_new c u s v i j ij q held))

-- ---- what a step's station has taken by it: a control item, where a receipt was answered with a mode
abbrev pub Takes : {K : Clock} → Config → State K → Step → Outcome K → Type 0
Takes c s p o =
    (a b : ℕ) → neighbours c a b ≡ true
    → reqs_taken (station_at o.after a) b + dones_taken (station_at o.after a) b ≡ control_of b a p o.answer + (reqs_taken (station_at s a) b + dones_taken (station_at s a) b)

refused-takes_none : (i j : ℕ) (p : Step) (k : ℕ) → control_of i j p (refused k) ≡ 0
refused-takes_none i j (enter a g) k = refl
refused-takes_none i j (send a b g) k = refl
refused-takes_none i j (recv a b) k = refl
refused-takes_none i j (start a) k = refl

module _ {K : Clock} (c : Config) (u : Rules c) (s : State K) (v : Invariant c s) where
  untaken-sum : {s s' : State K} → Untaken c s s' → (a b : ℕ) → neighbours c a b ≡ true
      → reqs_taken (station_at s' a) b + dones_taken (station_at s' a) b ≡ 0 + (reqs_taken (station_at s a) b + dones_taken (station_at s a) b)
  untaken-sum k a b h = omega (arith, k.reqs a b h, k.dones a b h)

  -- a control item and the record x after it, and then the reset rules
  control_takes : (i j : ℕ) → i < c.n → (x : Station K) (y : Item K) (q : List (Item K)) → Invariant c (set_link (set_station s i x) j i q)
      → TakesOff c i j s (set_link (set_station s i x) j i q) y q []
      → reqs_taken x j + dones_taken x j ≡ suc (reqs_taken (station_at s i) j + dones_taken (station_at s i) j)
      → Takes c s (recv i j) (do_mark c i j x q s)
  control_takes i j il x y q w m e a b h =
      let l = untaken-sum (turn_still c u i il _ w).untaken a b h in
      let k = marked (ℕ_discrete a i) (ℕ_discrete b j) in
      omega (arith, l, k)
    where
      marked : Dec (a ≡ i) → Dec (b ≡ j)
          → reqs_taken (station_at (set_link (set_station s i x) j i q) a) b + dones_taken (station_at (set_link (set_station s i x) j i q) a) b
          ≡ bit (eqb i a && eqb j b) + (reqs_taken (station_at s a) b + dones_taken (station_at s a) b)
      marked (yes p) (yes r) = rw (p, r, eq-eqb i i refl, eq-eqb j j refl, station-set_link, station-set) (omega (arith, e))
      marked (yes p) (no r) =
          rw (p, ne_eqb j b (λ z. r (sym z)), and-false) (omega (arith, takes_reqs c i j s _ y q [] m i b (λ z w. r w), takes_dones c i j s _ y q [] m i b (λ z w. r w)))
      marked (no p) d =
          rw (ne_eqb i a (λ z. p (sym z))) (omega (arith, takes_reqs c i j s _ y q [] m a b (λ z w. p z), takes_dones c i j s _ y q [] m a b (λ z w. p z)))

  pub step_takes : (p : Step) → Takes c s p (step c s p)
  step_takes =
      of_step c s (Takes c s) (λ p k a b h. omega (arith, refused-takes_none b a p k))
      (record {
        own = λ i g si l w. untaken-sum (puts_untaken c i s _ _ (puts_enter c u s v i));
        sent = λ i j g si ij m l w. untaken-sum (puts_untaken c i s _ _ (puts_send c u s v i j g ij m));
        received = λ i j load g q si ij e w a b h.
            by_dec (ℕ_discrete a i) (λ p. rw (p, station-set_link, station-set) (omega arith)) (λ p. rw ((takes_message c u s v i j ij q load g e).others a p) (omega arith));
        req = λ i j q si ij e w. control_takes i j (station-below c i si) _ reset_req q (req_keeps c u s v i j ij q e).inv (takes_req c u s v i j ij q e) (req-counts c u s v i j ij q e);
        done = λ i j q si ij e w. control_takes i j (station-below c i si) _ reset_done q (done_keeps c u s v i j ij q e).inv (takes_done c u s v i j ij q e) (done-counts c u s v i j ij q e);
        started = λ i si m l w a b h.
            omega (
              arith,
              untaken-sum (turn_still c u i (station-below c i si) _ (begin_keeps c u i s m v).inv).untaken a b h,
              untaken-sum (puts_untaken c i s _ _ (puts_begin c u i s m v)) a b h,
            );
      })

-- ---- lists of steps
module _ (K : Clock) (c : Config) (u : Rules c) where
  run_takes : (s : State K) → Invariant c s → (ps : List Step) (a b : ℕ) → neighbours c a b ≡ true
      → reqs_taken (station_at (run c s ps) a) b + dones_taken (station_at (run c s ps) a) b ≡ controls_in b a (log c s ps) + (reqs_taken (station_at s a) b + dones_taken (station_at s a) b)
  run_takes s v [] a b h = omega arith
  run_takes s v (p ∷ ps) a b h =
      let k = run_takes (step c s p).after (step_keeps c u s v p) ps a b h in
      let l = step_takes c u s v p a b h in
      omega arith

  -- from the initial network, with the one that is counted too many
  pub taken_from_initial : (ps : List Step) (a b : ℕ) → neighbours c a b ≡ true
      → reqs_taken (station_at (run c (initial K c) ps) a) b + dones_taken (station_at (run c (initial K c) ps) a) b ≡ suc (controls_in b a (log c (initial K c) ps))
  taken_from_initial ps a b h =
      let v = initial-invariant K c u in
      let e = initial_station_lem K c a (neighbour-small c u b a (u.both_ways a b h)) in
      let d = v.seen a b h (rw e) in
      let z : reqs_taken (station_at (initial K c) a) b + dones_taken (station_at (initial K c) a) b ≡ 1 = rw d (rw (e, none_at)) in
      omega (arith, run_takes (initial K c) v ps a b h, z)

pub controls_told : ControlsTold
controls_told c m r ps i j h = let u = rules c m r in omega (arith, taken_from_initial vector c u ps j i (u.both_ways i j h))
