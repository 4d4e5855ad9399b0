-- Laws of every step: the cases of its outcome, that a refused step leaves the state as it was, that the bounds are kept, what an accepted
-- entry's record bears and what news it tells, and that the answer is of the station that took the step. Assumes nothing.
use Prim.Native.Nat.{ℕ, ◌<◌, ◌≤◌}
use mathlib.Core.Path.{◌≡◌, refl}
use mathlib.Core.List.{List, [], ◌∷◌}
use mathlib.Core.Bool.{Bool, true, false}
use native.Mathlib.Omega.{arith}
use borrow.Author.Tests.{not-false, leb-false, ltb-true}
use Rattle.clock.proofs.NewsLaws.{news-most}
use Rattle.reset.specs.Config.{Config, is_station, neighbours, limit_at, allowance_at}
use Rattle.reset.specs.Clock.{Clock}
use Rattle.reset.specs.State.{Mode, normal, mute, stand_by, Item, message, reset_req, reset_done, State, station_at, link_at, done_seen, sent_to, set_station}
use Rattle.reset.specs.Bears.{Bears, Tells, Taker}
use Rattle.reset.specs.Steps.{Step, enter, send, recv, start, Entry, refused, entry, Outcome, refuse, guard, in_bounds, bounded, do_enter, may_send, do_send, receiving, do_receive, with_req, with_done, do_mark, receive, do_start, is_normal, in_last_phase, step}
use Rattle.reset.specs.Network.{run}
use Rattle.reset.proofs.Cases.{clash}
use Rattle.reset.proofs.Views.{station-set, station-set_link}

-- ---- the tests that refuse
module _ {K : Clock} (c : Config) (s : State K) (P : Outcome K → Type 0) where
  pub guarded : (t : Bool) (k : ℕ) (o : Outcome K) → P (refuse s k) → (t ≡ false → P o) → P (guard s t k o)
  unfolding guard
  guarded true k o r f = r
  guarded false k o r f = f refl

  pub within : (o : Outcome K) → P (refuse s 2) → (in_bounds c o.after ≡ true → P o) → P (bounded c s o)
  unfolding bounded
  within o r f = guarded _ 2 o r (λ h. f (not-false (in_bounds c o.after) h))

pub is_normal_lem : (m : Mode) → is_normal m ≡ true → m ≡ normal
is_normal_lem normal h = refl
is_normal_lem mute h = clash (cc)
is_normal_lem stand_by h = clash (cc)

-- ---- the cases of a step
-- T holds of each outcome that only a bound can still refuse, with what was tested before it
pub record Cases {K : Clock} (c : Config) (s : State K) (T : Step → Outcome K → Type 0) : Type 0 where
  pub own : (i g : ℕ) → is_station c i ≡ true → (station_at s i).own < allowance_at c (station_at s i).phase i → T (enter i g) (do_enter i g s)
  pub sent : (i j g : ℕ) → is_station c i ≡ true → neighbours c i j ≡ true → may_send (station_at s i).mode (done_seen (station_at s i) j) ≡ true
      → sent_to (station_at s i) j < limit_at c (station_at s i).phase i j → T (send i j g) (do_send i j g s)
  pub received : (i j : ℕ) (w : K.Load) (g : ℕ) (q : List (Item K)) → is_station c i ≡ true → neighbours c i j ≡ true → link_at s j i ≡ message w g ∷ q
      → T (recv i j) (do_receive i j w g q s)
  pub req : (i j : ℕ) (q : List (Item K)) → is_station c i ≡ true → neighbours c i j ≡ true → link_at s j i ≡ reset_req ∷ q
      → T (recv i j) (do_mark c i j (with_req j (station_at s i)) q s)
  pub done : (i j : ℕ) (q : List (Item K)) → is_station c i ≡ true → neighbours c i j ≡ true → link_at s j i ≡ reset_done ∷ q
      → T (recv i j) (do_mark c i j (with_done j (station_at s i)) q s)
  pub started : (i : ℕ) → is_station c i ≡ true → (station_at s i).mode ≡ normal → in_last_phase (station_at s i) ≡ false → T (start i) (do_start c i s)

-- what holds of a refusal with 4 to 8, and of each such outcome as far as it is in bounds, holds of every step
module _ {K : Clock} (c : Config) (s : State K) (P : Step → Outcome K → Type 0) (R : (p : Step) (k : ℕ) → 4 ≤ k → k ≤ 8 → P p (refuse s k))
    (C : Cases c s (λ p o. P p (bounded c s o))) where
  -- refused with k where the test holds
  tried : (p : Step) (t : Bool) (k : ℕ) (o : Outcome K) → 4 ≤ k → k ≤ 8 → (t ≡ false → P p o) → P p (guard s t k o)
  tried p t k o a b f = guarded c s (P p) t k o (R p k a b) f

  of_receive : (i j : ℕ) → is_station c i ≡ true → neighbours c i j ≡ true → (l : List (Item K)) → link_at s j i ≡ l → P (recv i j) (receive c i j s l)
  of_receive i j si ij [] e = R (recv i j) 7 (omega arith) (omega arith)
  of_receive i j si ij (message w g ∷ q) e = C.received i j w g q si ij e
  of_receive i j si ij (reset_req ∷ q) e = C.req i j q si ij e
  of_receive i j si ij (reset_done ∷ q) e = C.done i j q si ij e

  pub of_attempt : (p : Step) → P p (step c s p)
  of_attempt (enter i g) =
      tried (enter i g) _ 4 _ (omega arith) (omega arith) (λ h.
      tried (enter i g) _ 6 _ (omega arith) (omega arith) (λ l.
      C.own i g (not-false (is_station c i) h) (leb-false _ _ l)))
  of_attempt (send i j g) =
      tried (send i j g) _ 4 _ (omega arith) (omega arith) (λ h.
      tried (send i j g) _ 4 _ (omega arith) (omega arith) (λ n.
      tried (send i j g) _ 5 _ (omega arith) (omega arith) (λ m.
      tried (send i j g) _ 6 _ (omega arith) (omega arith) (λ l.
      C.sent i j g (not-false (is_station c i) h) (not-false (neighbours c i j) n) (not-false _ m) (leb-false _ _ l)))))
  of_attempt (recv i j) =
      tried (recv i j) _ 4 _ (omega arith) (omega arith) (λ h.
      tried (recv i j) _ 4 _ (omega arith) (omega arith) (λ n.
      of_receive i j (not-false (is_station c i) h) (not-false (neighbours c i j) n) (link_at s j i) refl))
  of_attempt (start i) =
      tried (start i) _ 4 _ (omega arith) (omega arith) (λ h.
      tried (start i) _ 5 _ (omega arith) (omega arith) (λ m.
      tried (start i) _ 8 _ (omega arith) (omega arith) (λ l.
      C.started i (not-false (is_station c i) h) (is_normal_lem _ (not-false _ m)) l)))

-- what holds of a refusal, and of each such outcome that is in bounds, holds of every step
module _ {K : Clock} (c : Config) (s : State K) (P : Step → Outcome K → Type 0) (R : (p : Step) (k : ℕ) → P p (refuse s k))
    (C : Cases c s (λ p o. in_bounds c o.after ≡ true → P p o)) where
  done_or_not : (p : Step) (o : Outcome K) → (in_bounds c o.after ≡ true → P p o) → P p (bounded c s o)
  done_or_not p o f = within c s (P p) o (R p 2) f

  pub of_step : (p : Step) → P p (step c s p)
  of_step =
      of_attempt c s P (λ p k a b. R p k)
      (record {
        own = λ i g si l. done_or_not (enter i g) _ (C.own i g si l);
        sent = λ i j g si ij m l. done_or_not (send i j g) _ (C.sent i j g si ij m l);
        received = λ i j w g q si ij e. done_or_not (recv i j) _ (C.received i j w g q si ij e);
        req = λ i j q si ij e. done_or_not (recv i j) _ (C.req i j q si ij e);
        done = λ i j q si ij e. done_or_not (recv i j) _ (C.done i j q si ij e);
        started = λ i si m l. done_or_not (start i) _ (C.started i si m l);
      })

-- ---- a refused step leaves the state as it was
pub refused-leaves : {K : Clock} (c : Config) (s : State K) (p : Step) (k : ℕ) → (step c s p).answer ≡ refused k → (step c s p).after ≡ s
refused-leaves c s =
    of_step c s (λ p o. (k : ℕ) → o.answer ≡ refused k → o.after ≡ s) (λ p k k' h. refl)
    (record {
      own = λ i g si l b k h. clash (cc);
      sent = λ i j g si ij m l b k h. clash (cc);
      received = λ i j w g q si ij e b k h. clash (cc);
      req = λ i j q si ij e b k h. clash (cc);
      done = λ i j q si ij e b k h. clash (cc);
      started = λ i si m l b k h. clash (cc);
    })

-- ---- every step keeps the bounds
pub step_bounded : {K : Clock} (c : Config) (s : State K) → in_bounds c s ≡ true → (p : Step) → in_bounds c (step c s p).after ≡ true
step_bounded c s h =
    of_step c s (λ p o. in_bounds c o.after ≡ true) (λ p k. h)
    (record {
      own = λ i g si l b. b;
      sent = λ i j g si ij m l b. b;
      received = λ i j w g q si ij e b. b;
      req = λ i j q si ij e b. b;
      done = λ i j q si ij e b. b;
      started = λ i si m l b. b;
    })

pub run-bounded : {K : Clock} (c : Config) (s : State K) → in_bounds c s ≡ true → (ps : List Step) → in_bounds c (run c s ps) ≡ true
run-bounded c s h [] = h
run-bounded c s h (p ∷ ps) = run-bounded c (step c s p).after (step_bounded c s h p) ps

-- ---- an accepted entry's record says which step it was, and in which phase its station stood
pub entry_same : (e e' : Entry) → entry e ≡ entry e' → e ≡ e'
entry_same e e' h = cc

pub record_bears : {K : Clock} (c : Config) (s : State K) (p : Step) (e : Entry) → (step c s p).answer ≡ entry e → Bears s p e
record_bears c s =
    of_step c s (λ p o. (e : Entry) → o.answer ≡ entry e → Bears s p e) (λ p k e h. clash (cc))
    (record {
      own = λ i g si l b e h. rw (← entry_same _ e h) (refl, refl, refl, refl, refl);
      sent = λ i j g si ij m l b e h. rw (← entry_same _ e h) (refl, refl, refl, refl, refl);
      received = λ i j w g q si ij k b e h. rw (← entry_same _ e h) (refl, refl, refl, refl, (w, q, k));
      req = λ i j q si ij k b e h. clash (cc);
      done = λ i j q si ij k b e h. clash (cc);
      started = λ i si m l b e h. clash (cc);
    })

-- ---- the news that it tells is what grew, from the state before to the state after
pub news-told : {K : Clock} (c : Config) (s : State K) (p : Step) (e : Entry) → (step c s p).answer ≡ entry e → Tells s p e (step c s p).after
news-told c s =
    of_step c s (λ p o. (e : Entry) → o.answer ≡ entry e → Tells s p e o.after) (λ p k e h. clash (cc))
    (record {
      own = λ i g si l b e h. rw (← entry_same _ e h) refl;
      sent = λ i j g si ij m l b e h. rw (← entry_same _ e h) refl;
      received = λ i j w g q si ij k b e h. rw (← entry_same _ e h, station-set_link (set_station s i (receiving i j w (station_at s i))) j i q i, station-set s i (receiving i j w (station_at s i)));
      req = λ i j q si ij k b e h. clash (cc);
      done = λ i j q si ij k b e h. clash (cc);
      started = λ i si m l b e h. clash (cc);
    })

-- at most seven stations are others
pub news-few : {K : Clock} (c : Config) (s : State K) → c.n ≤ 8 → (p : Step) (e : Entry) → (step c s p).answer ≡ entry e → e.news ≤ 7
unfolding is_station
news-few {K} c s n =
    of_step c s (λ p o. (e : Entry) → o.answer ≡ entry e → e.news ≤ 7) (λ p k e h. clash (cc))
    (record {
      own = λ i g si l b e h. rw (← entry_same _ e h) (omega arith);
      sent = λ i j g si ij m l b e h. rw (← entry_same _ e h) (omega arith);
      received = λ i j w g q si ij k b e h. rw (← entry_same _ e h) (news-most i _ _ (omega (arith, ltb-true i c.n si)));
      req = λ i j q si ij k b e h. clash (cc);
      done = λ i j q si ij k b e h. clash (cc);
      started = λ i si m l b e h. clash (cc);
    })

-- ---- an accepted step is answered for the station that took it
pub answers_taker : {K : Clock} (c : Config) (s : State K) (p : Step) → Taker p (step c s p).answer
answers_taker c s =
    of_step c s (λ p o. Taker p o.answer) (λ p k. tt)
    (record {
      own = λ i g si l b. refl;
      sent = λ i j g si ij m l b. refl;
      received = λ i j w g q si ij k b. refl;
      req = λ i j q si ij k b. refl;
      done = λ i j q si ij k b. refl;
      started = λ i si m l b. refl;
    })
