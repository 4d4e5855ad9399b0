-- Each change keeps the invariant. Begin, the reset rules and control items move no message; a send puts one message behind those that wait on its link, and
-- a receipt takes the first. Assumes nothing.
use Prim.Native.Nat.{ℕ, suc, ◌≤◌, ◌+◌}
use mathlib.Core.Path.{◌≡◌, refl, sym, ap, ◌∙◌}
use mathlib.Core.List.{List, [], ◌∷◌, ◌++◌, append-nil}
use mathlib.Core.Bool.{Bool, true, not, ◌||◌, false, cond}
use mathlib.Core.Logic.{◌≢◌}
use native.Mathlib.Omega.{arith}
use native.Mathlib.Decide.{ℕ_discrete}
use lib.Dec.{eqb}
use borrow.Author.Tests.{eq-eqb, ne_eqb, eqb-true, eqb-false}
use Rattle.codec.proofs.EveryLaws.{every_at}
use Rattle.codec.proofs.PutLaws.{put_same, put_other}
use Rattle.reset.specs.Config.{Config, neighbours}
use Rattle.reset.specs.Receipts.{muted, target, reqs_taken, dones_taken}
use Rattle.reset.proofs.ConfigLaws.{Rules, neighbour-small}
use Rattle.reset.specs.Clock.{Clock}
use Rattle.reset.specs.State.{normal, mute, stand_by, Item, reset_req, reset_done, Station, State, station_at, link_at, req_seen, done_seen, set_station, put_on_all, Mode, message, set_link}
use Rattle.reset.specs.Steps.{every_neighbour, begun, renewed, woken, begin_reset, renew, wake, Rule, rule_a, rule_b, rule_c, no_rule, rule_of, apply, turn_once, turn, send, recv, entered, sending, may_send, do_send, receiving, do_receive, with_req, with_done}
use Rattle.reset.proofs.Views.{none_at, station-set, station-set-other, link_set-station, station-put_all, link-put_all, link-put_all_far, link-put_all_row, station-set_link, link_set_lem, link_set-row, link_set_col}
use Rattle.reset.proofs.TurnLaws.{Tested, rule_tested}
use Rattle.reset.proofs.Changes.{Tagged, tags, waiting, sent_on, first_with, got_on}
use Rattle.reset.proofs.Flow.{Flow, flow-reqs, flow-dones}
use Rattle.reset.proofs.Invariant.{Invariant, Maintained, kept_still, kept_then, Puts, puts_quiet, Carries, target-near, phase-near, puts_keeps, puts_waiting, puts_still, TakesOff, takes_keeps, takes_waiting, takes_still}
use Rattle.reset.proofs.Cases.{clash, by_dec}

pub every_neighbour_at : (c : Config) → Rules c → (i : ℕ) (p : ℕ → Bool) → every_neighbour c i p ≡ true → (j : ℕ) → neighbours c i j ≡ true → p j ≡ true
unfolding every_neighbour
every_neighbour_at c u i p h j k = rw k at (every_at 8 (λ (m : ℕ). not (neighbours c i m) || p m) j h (neighbour-small c u i j k))

module _ {K : Clock} (c : Config) (u : Rules c) (i : ℕ) (s : State K) where
  -- a new record x, and the item y on every link out
  puts_all : (x : Station K) (y : Item K)
      → (station_at s i).phase ≤ x.phase
      → ((j : ℕ) → neighbours c i j ≡ true → reqs_taken x j ≡ reqs_taken (station_at s i) j)
      → ((j : ℕ) → neighbours c i j ≡ true → dones_taken x j ≡ dones_taken (station_at s i) j)
      → ((b : ℕ) → Flow (station_at s b).phase (target (station_at s i)) (suc (station_at s i).phase) (y ∷ []) (target x) (suc x.phase))
      → ((j : ℕ) → neighbours c i j ≡ true → x.mode ≡ normal → done_seen x j ≡ true)
      → Puts c i s (put_on_all c (set_station s i x) i y) (λ b. y ∷ [])
  puts_all x y up r e t d =
      record {
        others = λ k n. station-put_all c _ i y k ∙ station-set-other s i x k n;
        kept = λ a b n. link-put_all_row c _ i y a b n ∙ link_set-station s i x a b;
        onto = λ b h. link-put_all c _ i y b (neighbour-small c u i b h) h ∙ ap (λ (l : List (Item K)). l ++ (y ∷ [])) (link_set-station s i x i b);
        apart = λ b h. link-put_all_far c _ i y b h ∙ link_set-station s i x i b;
        up = rw (station-put_all, station-set) up;
        head-reqs = rw (station-put_all, station-set) r;
        head-dones = rw (station-put_all, station-set) e;
        tail = rw (station-put_all, station-set) (λ b h. t b);
        seen' = rw (station-put_all, station-set) d;
      }

  pub puts_begin : (station_at s i).mode ≡ normal → Invariant c s → Puts c i s (begin_reset c i s) (λ b. reset_req ∷ [])
  unfolding begin_reset
  puts_begin h v =
      puts_all (begun (station_at s i)) reset_req (omega arith) (λ j k. refl)
      (λ j k. rw (none_at, h, v.seen i j k h) (omega arith))
      (λ b. rw h (omega arith))
      (λ j k e. clash (cc))

  pub begin_keeps : (station_at s i).mode ≡ normal → Invariant c s → Maintained c s (begin_reset c i s)
  begin_keeps h v = puts_quiet c u i s _ _ v (puts_begin h v) (λ b. refl)

  -- rule a
  pub puts_renew : (station_at s i).mode ≡ mute → every_neighbour c i (req_seen (station_at s i)) ≡ true → Puts c i s (renew c i s) (λ b. reset_done ∷ [])
  unfolding renew
  puts_renew h a =
      puts_all (renewed (station_at s i)) reset_done (omega arith)
      (λ j k. rw (none_at, every_neighbour_at c u i (req_seen (station_at s i)) a j k) (omega arith))
      (λ j k. rw h (omega arith))
      (λ b. rw h (omega arith))
      (λ j k e. clash (cc))

  -- a new record that the links do not read otherwise, and nothing put
  pub puts_own : (x : Station K)
      → x.phase ≡ (station_at s i).phase
      → muted x.mode ≡ muted (station_at s i).mode
      → x.reqs ≡ (station_at s i).reqs
      → x.dones ≡ (station_at s i).dones
      → ((j : ℕ) → neighbours c i j ≡ true → x.mode ≡ normal → done_seen x j ≡ true)
      → Puts c i s (set_station s i x) (λ b. [])
  puts_own x p m r e d =
      record {
        others = λ k n. station-set-other s i x k n;
        kept = λ a b n. link_set-station s i x a b;
        onto = λ b h. link_set-station s i x i b ∙ sym (append-nil (link_at s i b));
        apart = λ b h. link_set-station s i x i b;
        up = rw (station-set, p) (omega arith);
        head-reqs = rw (station-set, p, r) (λ j h. refl);
        head-dones = rw (station-set, p, m, e) (λ j h. refl);
        tail = rw (station-set, p, m) (λ b h. (refl, refl));
        seen' = rw station-set d;
      }

  -- rule b
  pub puts_wake : (station_at s i).mode ≡ stand_by → every_neighbour c i (done_seen (station_at s i)) ≡ true → Puts c i s (wake i s) (λ b. [])
  unfolding wake
  puts_wake h a = puts_own (woken (station_at s i)) refl (rw h) refl refl (λ j k e. every_neighbour_at c u i (done_seen (station_at s i)) a j k)

  rule_keeps : (r : Rule) → Tested c i (station_at s i) r → Invariant c s → Maintained c s (apply c i s r)
  rule_keeps rule_a t v = puts_quiet c u i s _ _ v (puts_renew t.0 t.1) (λ b. refl)
  rule_keeps rule_b t v = puts_quiet c u i s _ _ v (puts_wake t.0 t.1) (λ b. refl)
  rule_keeps rule_c t v = begin_keeps t.0 v
  rule_keeps no_rule t v = kept_still v

  pub turn_once_keeps : Invariant c s → Maintained c s (turn_once c i s)
  unfolding turn_once
  turn_once_keeps v = rule_keeps (rule_of c i (station_at s i)) (rule_tested c i (station_at s i)) v

pub turn_keeps : {K : Clock} (c : Config) → Rules c → (i : ℕ) (s : State K) → Invariant c s → Maintained c s (turn c i s)
unfolding turn
turn_keeps c u i s v =
    let k₁ = turn_once_keeps c u i s v in
    let k₂ = turn_once_keeps c u i _ k₁.inv in
    kept_then c (kept_then c k₁ k₂) (turn_once_keeps c u i _ k₂.inv)

-- ---- enter
module _ {K : Clock} (c : Config) (u : Rules c) (s : State K) (v : Invariant c s) (i : ℕ) where
  pub puts_enter : Puts c i s (set_station s i (entered i (station_at s i))) (λ b. [])
  puts_enter = puts_own c u i s (entered i (station_at s i)) refl refl refl refl (λ j h e. v.seen i j h e)

  pub enter_keeps : Maintained c s (set_station s i (entered i (station_at s i)))
  enter_keeps = puts_quiet c u i s _ _ v puts_enter (λ b. refl)

-- ---- send
may_send_unmuted : (m : Mode) (d : Bool) → may_send m d ≡ true → muted m ≡ 0
may_send_unmuted normal d h = refl
may_send_unmuted mute d h = clash (cc)
may_send_unmuted stand_by d h = refl

may_send-seen : (m : Mode) (d : Bool) → may_send m d ≡ true → (m ≡ normal → d ≡ true) → d ≡ true
may_send-seen normal d h k = k refl
may_send-seen mute d h k = clash (cc)
may_send-seen stand_by d h k = h

module _ {K : Clock} (c : Config) (u : Rules c) (s : State K) (v : Invariant c s) (i j g : ℕ) (ij : neighbours c i j ≡ true)
    (may : may_send (station_at s i).mode (done_seen (station_at s i) j) ≡ true) where
  abbrev w : K.Load
  w = K.load i j (K.tick i (station_at s i).time)

  abbrev x : Station K
  x = sending i j (station_at s i)

  abbrev out : ℕ → List (Item K)
  out b = cond (eqb j b) (message w g ∷ []) []

  onto-send : (b : ℕ) (t : Bool) → eqb j b ≡ t → link_at (do_send i j g s).after i b ≡ link_at s i b ++ cond t (message w g ∷ []) []
  onto-send b true e = rw (← eqb-true j b e) (link_set_lem _ i j _ ∙ ap (λ (q : List (Item K)). q ++ (message w g ∷ [])) (link_set-station s i x i j))
  onto-send b false e = link_set_col _ i j _ b (λ p. eqb-false j b e (sym p)) ∙ link_set-station s i x i b ∙ sym (append-nil (link_at s i b))

  tail-send : (b : ℕ) (t : Bool) → eqb j b ≡ t
      → Flow {K = K} (station_at s b).phase (target (station_at s i)) (suc (station_at s i).phase) (cond t (message w g ∷ []) []) (target x) (suc x.phase)
  tail-send b true e =
      let k = rw (may_send-seen _ _ may (v.seen i j ij)) at (flow-dones _ _ _ (link_at s j i) _ _ (v.flow j i (u.both_ways i j ij))) in
      rw (← eqb-true j b e, may_send_unmuted _ _ may) (omega arith)
  tail-send b false e = (refl, refl)

  -- station j, whose done is seen, is in the phase of i: it can be no further, for i aims at no later one
  pub one_phase : (station_at s j).phase ≡ (station_at s i).phase
  one_phase =
      let k = rw (may_send-seen _ _ may (v.seen i j ij)) at (flow-dones _ _ _ (link_at s j i) _ _ (v.flow j i (u.both_ways i j ij))) in
      let l = phase-near c s v i j ij in
      let m = may_send_unmuted (station_at s i).mode (done_seen (station_at s i) j) may in
      omega arith

  pub puts_send : Puts c i s (do_send i j g s).after out
  puts_send =
      record {
        others = λ k n. station-set_link _ i j _ k ∙ station-set-other s i x k n;
        kept = λ a b n. link_set-row _ i j _ a b n ∙ link_set-station s i x a b;
        onto = λ b h. onto-send b (eqb j b) refl;
        apart = λ b h. link_set_col _ i j _ b (λ e. clash (sym ij ∙ ap (neighbours c i) (sym e) ∙ h)) ∙ link_set-station s i x i b;
        up = rw (station-set_link, station-set) (omega arith);
        head-reqs = rw (station-set_link, station-set) (λ k h. refl);
        head-dones = rw (station-set_link, station-set) (λ k h. refl);
        tail = rw (station-set_link, station-set) (λ b h. tail-send b (eqb j b) refl);
        seen' = rw (station-set_link, station-set) (λ k h e. v.seen i k h e);
      }

  pub send_keeps : Invariant c (do_send i j g s).after
  send_keeps = puts_keeps c u i s _ out v puts_send

  tag_send : (t : Bool) → cond t (record { phase = (station_at s i).phase; load = w; register = g } ∷ []) [] ≡ tags {K = K} (target (station_at s i)) (cond t (message w g ∷ []) [])
  tag_send true =
      let e : (station_at s i).phase ≡ target (station_at s i) = omega (arith, may_send_unmuted (station_at s i).mode (done_seen (station_at s i) j) may) in
      ap {B = List (Tagged K)} (λ r. record { phase = r; load = w; register = g } ∷ []) e
  tag_send false = refl

  pub send-log : (a b : ℕ) → neighbours c a b ≡ true → waiting s a b ++ sent_on s a b (send i j g) ≡ waiting (do_send i j g s).after a b
  send-log a b h =
      by_dec (ℕ_discrete a i)
      (λ p. rw (p, eq-eqb i i refl, tag_send (eqb j b)) (sym (puts_waiting c u i s _ out v puts_send b (rw p at h) (λ e. u.loopless i (rw (p, e) at h)))))
      (λ p. rw (ne_eqb i a (λ e. p (sym e))) (append-nil (waiting s a b) ∙ sym (puts_still c u i s _ out v puts_send a b h p (ℕ_discrete b i))))

-- ---- recv
module _ {K : Clock} (c : Config) (u : Rules c) (s : State K) (v : Invariant c s) (i j : ℕ) (ij : neighbours c i j ≡ true) (q : List (Item K)) where
  -- a new record, and the first item off the link
  taken_by : (x : Station K) (y : Item K) (taken : List (Tagged K))
      → link_at s j i ≡ y ∷ q
      → x.mode ≡ (station_at s i).mode
      → x.phase ≡ (station_at s i).phase
      → ((k : ℕ) → k ≢ j → req_seen x k ≡ req_seen (station_at s i) k)
      → ((k : ℕ) → k ≢ j → done_seen x k ≡ done_seen (station_at s i) k)
      → ((k : ℕ) → done_seen (station_at s i) k ≡ true → done_seen x k ≡ true)
      → (Carries j (station_at s j) (y ∷ q) (station_at s i) → tags (reqs_taken (station_at s i) j) (y ∷ q) ≡ taken ++ tags (reqs_taken x j) q)
      → (Carries j (station_at s j) (y ∷ q) (station_at s i)
      → Flow (station_at s i).phase (reqs_taken x j) (dones_taken x j) q (target (station_at s j)) (suc (station_at s j).phase))
      → TakesOff c i j s (set_link (set_station s i x) j i q) y q taken
  taken_by x y taken held md ph ro dr dm ms mv =
      record {
        held = held;
        left = link_set_lem _ j i q;
        others = λ k n. station-set_link _ j i q k ∙ station-set-other s i x k n;
        rows = λ a b n. link_set-row _ j i q a b n ∙ link_set-station s i x a b;
        cols = λ b n. link_set_col _ j i q b n ∙ link_set-station s i x j b;
        mode_same = rw (station-set_link, station-set) md;
        phase_same = rw (station-set_link, station-set) ph;
        req-other = rw (station-set_link, station-set) ro;
        done-other = rw (station-set_link, station-set) dr;
        done_more = rw (station-set_link, station-set) dm;
        messages = rw (station-set_link, station-set) ms;
        moved = rw (station-set_link, station-set) mv;
      }

  -- a message: it lies in the receiver's phase
  pub takes_message : (w : K.Load) (g : ℕ) → link_at s j i ≡ message w g ∷ q
      → TakesOff c i j s (do_receive i j w g q s).after (message w g) q (record { phase = (station_at s i).phase; load = w; register = g } ∷ [])
  takes_message w g held =
      taken_by (receiving i j w (station_at s i)) (message w g) _ held refl refl (λ k n. refl) (λ k n. refl) (λ k d. d)
      (λ h. let e : reqs_taken (station_at s i) j ≡ (station_at s i).phase = omega arith in
      ap {B = List (Tagged K)} (λ r. record { phase = r; load = w; register = g } ∷ tags (reqs_taken (station_at s i) j) q) e)
      (λ h. h.2)

  -- reset_req: it was not seen before
  pub req_new : link_at s j i ≡ reset_req ∷ q → suc (reqs_taken (station_at s i) j) ≡ (station_at s i).phase + 1
  req_new held =
      let h = rw held at (v.flow j i (u.both_ways i j ij)) in
      let k = flow-reqs _ _ _ q _ _ h.1 in
      let l = target-near c s v i j ij in
      omega arith

  pub takes_req : link_at s j i ≡ reset_req ∷ q → TakesOff c i j s (set_link (set_station s i (with_req j (station_at s i))) j i q) reset_req q []
  takes_req held =
      taken_by (with_req j (station_at s i)) reset_req [] held refl refl (λ k n. put_other false (station_at s i).reqs j k true n) (λ k n. refl) (λ k d. d)
      (λ h. rw (put_same, req_new held))
      (λ h. rw (put_same, ← req_new held) h.1)

  -- reset_done: it was not seen before
  pub done_new : link_at s j i ≡ reset_done ∷ q → suc (dones_taken (station_at s i) j) ≡ target (station_at s i) + 1
  done_new held =
      let h = rw held at (v.flow j i (u.both_ways i j ij)) in
      let k = flow-dones _ _ _ q _ _ h.1 in
      let l = phase-near c s v i j ij in
      omega arith

  pub takes_done : link_at s j i ≡ reset_done ∷ q → TakesOff c i j s (set_link (set_station s i (with_done j (station_at s i))) j i q) reset_done q []
  takes_done held =
      taken_by (with_done j (station_at s i)) reset_done [] held refl refl (λ k n. refl) (λ k n. put_other false (station_at s i).dones j k true n)
      (λ k d. by_dec (ℕ_discrete k j) (λ p. rw (p, put_same)) (λ p. put_other false (station_at s i).dones j k true p ∙ d))
      (λ h. refl)
      (λ h. rw (put_same, ← done_new held) h.1)

  -- the message is the first that waits
  pub receive_keeps : (w : K.Load) (g : ℕ) → link_at s j i ≡ message w g ∷ q → Invariant c (do_receive i j w g q s).after
  receive_keeps w g held = takes_keeps c u i j ij s _ (message w g) q _ v (takes_message w g held)

  pub receive-log : (w : K.Load) (g : ℕ) → link_at s j i ≡ message w g ∷ q → (a b : ℕ) → neighbours c a b ≡ true
      → waiting s a b ++ [] ≡ got_on s a b (recv i j) ++ waiting (do_receive i j w g q s).after a b
  receive-log w g held a b h =
      let m = takes_message w g held in
      by_dec (ℕ_discrete a j)
      (λ p. by_dec (ℕ_discrete b i)
      (λ r. rw (p, r, eq-eqb i i refl, eq-eqb j j refl)
      (append-nil (waiting s j i) ∙ takes_waiting c u i j ij s _ (message w g) q _ v m
      ∙ ap (λ (z : List (Item K)). first_with (station_at s i).phase z ++ waiting (do_receive i j w g q s).after j i) (sym held)))
      (λ r. rw (p, eq-eqb j j refl, ne_eqb i b (λ e. r (sym e)))
      (append-nil (waiting s j b) ∙ sym (takes_still c u i j ij s _ (message w g) q _ v m j b (rw p at h) (no r) (λ e f. r f)))))
      (λ p. rw (ne_eqb j a (λ e. p (sym e)))
      (append-nil (waiting s a b) ∙ sym (takes_still c u i j ij s _ (message w g) q _ v m a b h (ℕ_discrete b i) (λ e f. p e))))

  -- a control item moves none
  unmoved-take : (s' : State K) (y : Item K) → TakesOff c i j s s' y q [] → Maintained c s s'
  unmoved-take s' y m =
      record {
        inv = takes_keeps c u i j ij s s' y q [] v m;
        unmoved = λ a b h. by_dec (ℕ_discrete a j)
            (λ p. by_dec (ℕ_discrete b i) (λ r. rw (p, r) (sym (takes_waiting c u i j ij s s' y q [] v m)))
            (λ r. takes_still c u i j ij s s' y q [] v m a b h (no r) (λ e f. r f)))
            (λ p. takes_still c u i j ij s s' y q [] v m a b h (ℕ_discrete b i) (λ e f. p e));
      }

  pub req_keeps : link_at s j i ≡ reset_req ∷ q → Maintained c s (set_link (set_station s i (with_req j (station_at s i))) j i q)
  req_keeps held = unmoved-take _ reset_req (takes_req held)

  pub done_keeps : link_at s j i ≡ reset_done ∷ q → Maintained c s (set_link (set_station s i (with_done j (station_at s i))) j i q)
  done_keeps held = unmoved-take _ reset_done (takes_done held)
