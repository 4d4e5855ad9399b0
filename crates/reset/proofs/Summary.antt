-- Every step keeps the invariant and does what `Summary` says. Assumes nothing.
use Prim.Native.Nat.{ℕ}
use mathlib.Core.Path.{◌≡◌, refl, sym, ◌∙◌}
use mathlib.Core.Logic.{◌≢◌}
use mathlib.Core.List.{List, ◌∷◌, append-nil}
use mathlib.Core.Bool.{true}
use native.Mathlib.Omega.{arith}
use native.Mathlib.Decide.{ℕ_discrete}
use Rattle.reset.specs.Config.{Config, is_station, neighbours}
use Rattle.reset.proofs.ConfigLaws.{Rules, station-below}
use Rattle.reset.specs.Clock.{Clock}
use Rattle.reset.specs.State.{normal, Item, message, Station, State, station_at, link_at, done_seen, set_station, set_link}
use Rattle.reset.specs.Steps.{begun, begin_reset, Rule, rule_a, rule_b, rule_c, no_rule, rule_of, applied, turn_once, turn, Step, enter, send, recv, start, Outcome, do_enter, may_send, do_send, receiving, do_receive, do_mark, do_start, step}
use Rattle.reset.proofs.Views.{station-set, station-set-other, station-set_link, station-put_all}
use Rattle.reset.proofs.TurnLaws.{station-turn_once, station-turn_once-other, station_turn_other}
use Rattle.reset.proofs.StepLaws.{of_step}
use Rattle.reset.proofs.Changes.{Move, stays, renews, Quiet, Summary}
use Rattle.reset.proofs.Invariant.{Invariant, Maintained, kept_then}
use Rattle.reset.proofs.Keeps.{begin_keeps, turn_keeps, enter_keeps, send_keeps, send-log, receive_keeps, receive-log, req_keeps, done_keeps}
use Rattle.reset.proofs.Cases.{by_dec}

-- ---- moves of a station's record
move-then : {K : Clock} (x y z : Station K) → Move x y → Move y z → Move x z
move-then x y z (stays p q) (stays p' q') = stays (p' ∙ p) (q' ∙ q)
move-then x y z (stays p q) (renews p' q') = renews (omega arith) q'
move-then x y z (renews p q) (stays p' q') = renews (omega arith) (q' ∙ q)
move-then x y z (renews p q) (renews p' q') = renews (omega arith) q'

move_rule : {K : Clock} (x : Station K) (r : Rule) → Move x (applied x r)
move_rule x rule_a = renews (omega arith) refl
move_rule x rule_b = stays refl refl
move_rule x rule_c = stays refl refl
move_rule x no_rule = stays refl refl

module _ {K : Clock} (c : Config) (i : ℕ) where
  move-turn_once : (s : State K) (k : ℕ) → Move (station_at s k) (station_at (turn_once c i s) k)
  move-turn_once s k =
      by_dec (ℕ_discrete k i)
      (λ p. rw (p, station-turn_once) (move_rule (station_at s i) (rule_of c i (station_at s i))))
      (λ p. rw (station-turn_once-other c i s k p) (stays refl refl))

  move_turn : (s : State K) (k : ℕ) → Move (station_at s k) (station_at (turn c i s) k)
  unfolding turn
  move_turn s k = move-then _ _ _ (move-then _ _ _ (move-turn_once s k) (move-turn_once _ k)) (move-turn_once _ k)

  -- a change of station i's record to x, in the same phase and with the same time, then the reset rules
  settle_quiet : (s s' : State K) (x : Station K) → station_at s' i ≡ x → ((k : ℕ) → k ≢ i → station_at s' k ≡ station_at s k)
      → x.phase ≡ (station_at s i).phase → x.time ≡ (station_at s i).time → Maintained c s (turn c i s')
      → Quiet c s i (station_at (turn c i s') i).mode (station_at (turn c i s') i).phase (turn c i s')
  settle_quiet s s' x here os p q k =
      record {
        mode_is = refl;
        phase_is = refl;
        others = λ j n. station_turn_other c i s' j n ∙ os j n;
        moves = λ j. move-then _ _ _ (by_dec (ℕ_discrete j i) (λ r. rw (r, here) (stays p q)) (λ r. rw (os j r) (stays refl refl))) (move_turn s' j);
        unmoved = k.unmoved;
      }

-- ---- each outcome that is accepted
abbrev Does : {K : Clock} → Config → State K → Step → Outcome K → Type 0
Does c s p o = Invariant c o.after × Summary c s p o.answer o.after

module _ {K : Clock} (c : Config) (u : Rules c) (s : State K) (v : Invariant c s) where
  does-enter : (i g : ℕ) → is_station c i ≡ true → Does c s (enter i g) (do_enter i g s)
  does-enter i g si =
      let k = enter_keeps c u s v i in (
        k.inv,
        record {
          station_in = station-below c i si;
          phase_is = refl;
          phase_same = rw station-set;
          counts-are = rw station-set;
          others = λ k n. station-set-other s i _ k n;
          how = record { kind_is = refl; station_is = refl; peer_is = refl; register_is = refl; time_is = rw station-set };
          log = λ a b h. append-nil _ ∙ sym (k.unmoved a b h);
        },
      )

  does-send : (i j g : ℕ) → is_station c i ≡ true → neighbours c i j ≡ true → may_send (station_at s i).mode (done_seen (station_at s i) j) ≡ true
      → Does c s (send i j g) (do_send i j g s)
  does-send i j g si ij may = (
    send_keeps c u s v i j g ij may,
    record {
      station_in = station-below c i si;
      phase_is = refl;
      phase_same = rw (station-set_link, station-set);
      counts-are = rw (station-set_link, station-set);
      others = λ k n. station-set_link _ i j _ k ∙ station-set-other s i _ k n;
      how = record {
        kind_is = refl;
        station_is = refl;
        peer_is = refl;
        register_is = refl;
        linked = ij;
        time_is = rw (station-set_link, station-set);
      };
      log = send-log c u s v i j g ij may;
    },
  )

  does-receive : (i j : ℕ) (w : K.Load) (g : ℕ) (q : List (Item K)) → is_station c i ≡ true → neighbours c i j ≡ true → link_at s j i ≡ message w g ∷ q
      → Does c s (recv i j) (do_receive i j w g q s)
  does-receive i j w g q si ij e =
      let x = receiving i j w (station_at s i) in (
        receive_keeps c u s v i j ij q w g e,
        record {
          station_in = station-below c i si;
          phase_is = refl;
          phase_same = rw (station-set_link, station-set);
          counts-are = rw (station-set_link, station-set);
          others = λ k n. station-set_link (set_station s i x) j i q k ∙ station-set-other s i x k n;
          how = record {
            kind_is = refl;
            station_is = refl;
            peer_is = refl;
            linked = ij;
            w = w;
            q = q;
            first_is = e;
            time_is = rw (station-set_link, station-set);
          };
          log = receive-log c u s v i j ij q w g e;
        },
      )

  -- a control item, with the mark in the record x
  does_mark : (i j : ℕ) (x : Station K) (q : List (Item K)) → x.phase ≡ (station_at s i).phase → x.time ≡ (station_at s i).time
      → Maintained c s (set_link (set_station s i x) j i q) → Does c s (recv i j) (do_mark c i j x q s)
  does_mark i j x q p t k =
      let l = kept_then c k (turn_keeps c u i _ k.inv) in (
        l.inv,
        settle_quiet c i s _ x (rw (station-set_link, station-set)) (λ k n. station-set_link _ j i q k ∙ station-set-other s i x k n) p t l,
      )

  does_start : (i : ℕ) → (station_at s i).mode ≡ normal → Does c s (start i) (do_start c i s)
  unfolding begin_reset
  does_start i m =
      let k = begin_keeps c u i s m v in
      let l = kept_then c k (turn_keeps c u i _ k.inv) in (
        l.inv,
        settle_quiet c i s _ (begun (station_at s i)) (rw (station-put_all, station-set)) (λ j n. station-put_all c _ i _ j ∙ station-set-other s i _ j n) refl refl l,
      )

  does : (p : Step) → Does c s p (step c s p)
  does =
      of_step c s (Does c s) (λ p k. (v, refl))
      (record {
        own = λ i g si l b. does-enter i g si;
        sent = λ i j g si ij m l b. does-send i j g si ij m;
        received = λ i j w g q si ij e b. does-receive i j w g q si ij e;
        req = λ i j q si ij e b. does_mark i j _ q refl refl (req_keeps c u s v i j ij q e);
        done = λ i j q si ij e b. does_mark i j _ q refl refl (done_keeps c u s v i j ij q e);
        started = λ i si m l b. does_start i m;
      })

  -- every step, from a state with the invariant
  pub step_keeps : (p : Step) → Invariant c (step c s p).after
  step_keeps p = (does p).0

  pub summary : (p : Step) → Summary c s p (step c s p).answer (step c s p).after
  summary p = (does p).1
