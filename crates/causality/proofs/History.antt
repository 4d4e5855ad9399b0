-- Every list of steps from the initial network makes a trace: what the state says of the entries so far is kept by every step. Assumes nothing.
use Prim.Native.Nat.{ℕ, zero, suc, ◌+◌, ◌≤◌, ◌<◌}
use mathlib.Core.Path.{◌≡◌, refl, sym, ap, subst, ◌∙◌}
use mathlib.Core.List.{List, [], ◌∷◌, ◌++◌, append-nil, map, map-append}
use mathlib.Core.Bool.{true, false, ◌&&◌, and-false}
use native.Mathlib.Omega.{arith}
use native.Mathlib.Decide.{ℕ_discrete}
use lib.Dec.{eqb}
use lib.ListN.{get_or, drop, length, length-drop, length-map}
use borrow.Author.Tests.{eqb-true, eq-eqb, ne_eqb}
use Rattle.codec.proofs.EveryLaws.{both}
use Rattle.clock.specs.Timestamp.{zeros, tick, raised}
use Rattle.reset.specs.Config.{Config, neighbours}
use Rattle.reset.proofs.ConfigLaws.{Rules}
use Rattle.reset.specs.Clock.{vector}
use Rattle.reset.specs.State.{Mode, Station, State, station_at}
use Rattle.reset.specs.Steps.{Step, enter, send, recv, start, Answer, refused, entry, mode_after, step}
use Rattle.reset.specs.Network.{initial, log, run, Answered}
use Rattle.reset.proofs.Changes.{Tagged, waiting, sent_on, first_with, got_on, Move, stays, renews, Quiet, How, Enters, Summary}
use Rattle.reset.proofs.Invariant.{Invariant}
use Rattle.reset.proofs.Summary.{step_keeps, summary}
use Rattle.reset.proofs.Initial.{initial_station_lem, initial-waiting, initial-invariant}
use Rattle.causality.specs.Plain.{Message, of_phase, fed}
use Rattle.causality.specs.HappenedBefore.{Accepted, with_entry, accepted, no_entry, entry_at, phase_of, timestamp_of, is_send, is_recv, count, GoesWith}
use Rattle.causality.specs.Sound.{first_message, taken, with_taken, takens}
use Rattle.causality.proofs.Trace.{record_station, is_of, last_of, counts_before, those, under_way, Follows, own, sent, received, fed_of}
use Rattle.causality.proofs.TraceLaws.{drop_head, those-length, those_nth, fewer, stays-under_way, sent-under_way, first_under_way}
use Rattle.reset.proofs.Cases.{by_test, by_dec, clash}

-- a send's message as a link has it, with the phase that it was sent in
abbrev pub tag_of : Accepted → Tagged vector
tag_of x = record { phase = x.entry.phase; load = x.entry.counts; register = x.entry.register }

-- What the state s says of the entries so far, the first m of E.
pub record History (c : Config) (E : List Accepted) (T : List (List Message)) (s : State vector) (m : ℕ) : Type 0 where
  -- a station's counts are those of its last entry in its phase; no entry of it is of a later phase
  pub times : (i : ℕ) → i < c.n → (station_at s i).time ≡ last_of E i (station_at s i).phase m
  pub above : (x : ℕ) → x < m → phase_of E x ≤ (station_at s (record_station E x)).phase
  -- a link's messages are those under way; none was sent where there is no link
  pub links : (a b : ℕ) → neighbours c a b ≡ true → map tag_of (under_way E a b m) ≡ waiting s a b
  pub unlinked : (a b : ℕ) → neighbours c a b ≡ false → those (is_send a b) E m ≡ []
  -- the entries so far are a trace
  pub follows : (y : ℕ) → y < m → Follows E T y
  pub inside : (y : ℕ) → y < m → record_station E y < c.n
  pub phases : (x y : ℕ) → x < y → y < m → record_station E x ≡ record_station E y → phase_of E x ≤ phase_of E y

-- ---- no entry
last_none : (E : List Accepted) (i f m : ℕ) → ((x : ℕ) → x < m → record_station E x ≡ i → phase_of E x ≡ f → ⊥) → last_of E i f m ≡ zeros
last_none E i f zero h = refl
last_none E i f (suc m) h =
    by_test (is_of i f (entry_at E m))
    (λ e. let t = both (eqb (phase_of E m) f) _ e in absurd (h m (omega arith) (eqb-true _ _ t.1) (eqb-true _ _ t.0)))
    (λ e. rw e (last_none E i f m (λ x l. h x (omega arith))))

move_up : (x x' : Station vector) → Move x x' → x.phase ≤ x'.phase
move_up x x' (stays p t) = omega arith
move_up x x' (renews p t) = omega arith

module _ (c : Config) (E : List Accepted) (T : List (List Message)) (s s' : State vector) (m : ℕ) (h : History c E T s m) where
  quiet_history : (i p : ℕ) (w : Mode) → Quiet c s i w p s' → History c E T s' m
  quiet_history i p w q =
      record {
        times = λ k l. go k (q.moves k) (h.times k l);
        above = λ x l. omega (arith, h.above x l, move_up _ _ (q.moves (record_station E x)));
        links = λ a b n. h.links a b n ∙ sym (q.unmoved a b n);
        unlinked = h.unlinked;
        follows = h.follows;
        inside = h.inside;
        phases = h.phases;
      }
    where
      go : (k : ℕ) → Move (station_at s k) (station_at s' k) → (station_at s k).time ≡ last_of E k (station_at s k).phase m
          → (station_at s' k).time ≡ last_of E k (station_at s' k).phase m
      go k (stays e t) r = rw (e, t) r
      go k (renews e t) r =
          t ∙ sym (last_none E k _ m (λ x l g z. let a : phase_of E x ≤ (station_at s k).phase = rw g at (h.above x l) in omega arith))

  -- ---- an entry, the next of E
  module _ (u : Rules c) (ml : m < length E) (en : Enters c s (entry_at E m).step (entry_at E m).entry s') (te : get_or T m [] ≡ taken s (entry_at E m).step) where
    -- how a step p makes it
    abbrev Way : Step → Type 0
    Way p = How c s p (entry_at E m).entry (station_at s' (record_station E m)).time

    before : (station_at s (record_station E m)).time ≡ counts_before E m
    before = h.times (record_station E m) en.station_in ∙ ap (λ (f : ℕ). last_of E (record_station E m) f m) (sym en.phase_is)

    -- own count +1
    ticked : (i : ℕ) → record_station E m ≡ i → (station_at s' (record_station E m)).time ≡ tick i (station_at s i).time
        → timestamp_of E m ≡ tick (record_station E m) (counts_before E m)
    ticked i e t = en.counts-are ∙ t ∙ ap (λ (k : ℕ). tick k (station_at s k).time) (sym e) ∙ ap (tick (record_station E m)) before

    -- the message that a receipt takes
    abbrev got : (i j : ℕ) → Way (recv i j) → Tagged vector
    got i j g = record { phase = (station_at s i).phase; load = g.w; register = (entry_at E m).entry.register }

    is_from : (i j : ℕ) → (entry_at E m).step ≡ recv i j → is_recv j i (entry_at E m).step ≡ true
    is_from i j e = rw (e, eq-eqb j j refl, eq-eqb i i refl)

    first_got : (i j : ℕ) → (entry_at E m).step ≡ recv i j → (g : Way (recv i j))
        → map tag_of (under_way E j i m) ≡ got i j g ∷ waiting s' j i
    first_got i j e g =
        let ji = u.both_ways i j g.linked in
        let none : sent_on s j i (entry_at E m).step ≡ [] = ap (sent_on s j i) e in
        let one : got_on s j i (entry_at E m).step ≡ got i j g ∷ [] =
        ap (got_on s j i) e ∙ rw (eq-eqb j j refl, eq-eqb i i refl) (ap (first_with (station_at s i).phase) g.first_is) in
        h.links j i ji ∙ sym (append-nil _) ∙ ap (λ (l : List (Tagged vector)). waiting s j i ++ l) (sym none) ∙ en.log j i ji
        ∙ ap (λ (l : List (Tagged vector)). l ++ waiting s' j i) one

    -- its send
    abbrev Origin : ℕ → ℕ → Tagged vector → Type 0
    Origin i j t = (x : ℕ) × (x < m) × (is_send j i (entry_at E x).step ≡ true) × (count (is_send j i) E x ≡ count (is_recv j i) E m) × (tag_of (entry_at E x) ≡ t)
        × (map tag_of (under_way E j i (suc m)) ≡ waiting s' j i)

    origin : (i j : ℕ) → (entry_at E m).step ≡ recv i j → (g : Way (recv i j)) → Origin i j (got i j g)
    origin i j e g =
        let full = first_got i j e g in
        let few : count (is_recv j i) E m < count (is_send j i) E m = omega (
          arith,
          ap length full,
          length-map (under_way E j i m) tag_of,
          length-drop (count (is_recv j i) E m) (those (is_send j i) E m),
          those-length (is_send j i) E m,
        ) in
        let (x, xl, sx, nx) = those_nth (is_send j i) E m (count (is_recv j i) E m) few in
        let split : tag_of (entry_at E x) ∷ map tag_of (under_way E j i (suc m)) ≡ got i j g ∷ waiting s' j i =
        ap (map tag_of) (sym (first_under_way E j i m x (is_from i j e) xl sx nx)) ∙ full in
        (x, xl, sx, nx, cc, cc)

    -- the entry follows the clock rule
    new_follows : (p : Step) → (entry_at E m).step ≡ p → Way p → Follows E T m
    new_follows (enter i g) e w =
        own g (e ∙ ap (λ (k : ℕ). enter k g) (sym w.station_is)) (te ∙ ap (taken s) e) (ticked i w.station_is w.time_is)
    new_follows (send i j g) e w = sent j (rw (w.station_is, w.register_is) e) (te ∙ ap (taken s) e) (ticked i w.station_is w.time_is)
    new_follows (recv i j) e w =
        let (x, xl, sx, nx, tx, rest) = origin i j e w in
        let g : GoesWith E x m = record { a = j; b = i; x_in = omega arith; y_in = ml; sent = sx; received = is_from i j e; same_number = nx } in
        received j x (e ∙ ap (λ (k : ℕ). recv k j) (sym w.station_is)) xl g
        (ap (λ (t : Tagged vector). t.phase) tx ∙ ap (λ (k : ℕ). (station_at s k).phase) (sym w.station_is) ∙ sym en.phase_is)
        (te ∙ ap (taken s) e ∙ ap first_message w.first_is
        ∙ ap {B = List Message} (λ (t : Tagged vector). record { counts = t.load; register = t.register } ∷ []) (sym tx))
        (en.counts-are ∙ w.time_is ∙ ap (λ (v : List ℕ). raised i (station_at s i).time v) (sym (ap (λ (t : Tagged vector). t.load) tx))
        ∙ ap (λ (k : ℕ). raised k (station_at s k).time (timestamp_of E x)) (sym w.station_is)
        ∙ ap (λ (v : List ℕ). raised (record_station E m) v (timestamp_of E x)) before)
    new_follows (start i) e w = absurd w

    -- ---- the links after it
    unmoved : (a b : ℕ) → neighbours c a b ≡ true → is_send a b (entry_at E m).step ≡ false → is_recv a b (entry_at E m).step ≡ false
        → sent_on s a b (entry_at E m).step ≡ [] → got_on s a b (entry_at E m).step ≡ [] → map tag_of (under_way E a b (suc m)) ≡ waiting s' a b
    unmoved a b n hs hr z y =
        let l : waiting s a b ++ [] ≡ waiting s' a b = rw (z, y) at (en.log a b n) in
        ap (map tag_of) (stays-under_way E a b m hs hr) ∙ h.links a b n ∙ sym (append-nil _) ∙ l

    sent_tag : (i j g : ℕ) (w : Way (send i j g))
        → ◌≡◌ {A = Tagged vector} (record { phase = (station_at s i).phase; load = tick i (station_at s i).time; register = g }) (tag_of (entry_at E m))
    sent_tag i j g w =
        let p : (station_at s i).phase ≡ phase_of E m = ap (λ (k : ℕ). (station_at s k).phase) (sym w.station_is) ∙ sym en.phase_is in
        let v : tick i (station_at s i).time ≡ timestamp_of E m = sym (en.counts-are ∙ w.time_is) in
        rw (p, v, w.register_is)

    new_links : (p : Step) → (entry_at E m).step ≡ p → Way p → (a b : ℕ) → neighbours c a b ≡ true
        → map tag_of (under_way E a b (suc m)) ≡ waiting s' a b
    new_links (enter i g) e w a b n = unmoved a b n (rw e) (rw e) (rw e) (rw e)
    new_links (send i j g) e w a b n =
        by_test (eqb i a && eqb j b)
        (λ t. let one : sent_on s a b (entry_at E m).step ≡ tag_of (entry_at E m) ∷ [] =
        ap (sent_on s a b) e ∙ rw t (ap {B = List (Tagged vector)} (λ x. x ∷ []) (sent_tag i j g w)) in
        ap (map tag_of) (sent-under_way E a b m (rw (e, t)) (rw e) (fewer E T a b m h.follows)) ∙ map-append tag_of (under_way E a b m) _
        ∙ ap (λ (l : List (Tagged vector)). l ++ (tag_of (entry_at E m) ∷ [])) (h.links a b n) ∙ ap (λ (l : List (Tagged vector)). waiting s a b ++ l) (sym one)
        ∙ en.log a b n ∙ ap (λ (l : List (Tagged vector)). l ++ waiting s' a b) (ap (got_on s a b) e))
        (λ t. unmoved a b n (rw (e, t)) (rw e) (rw (e, t)) (rw e))
    new_links (recv i j) e w a b n =
        by_test (eqb j a && eqb i b)
        (λ t. let k = both (eqb j a) _ t in
        let (x, xl, sx, nx, tx, rest) = origin i j e w in
        subst (λ (y : ℕ). map tag_of (under_way E y b (suc m)) ≡ waiting s' y b) (eqb-true j a k.0)
        (subst (λ (y : ℕ). map tag_of (under_way E j y (suc m)) ≡ waiting s' j y) (eqb-true i b k.1) rest))
        (λ t. unmoved a b n (rw e) (rw (e, t)) (rw e) (rw (e, t)))
    new_links (start i) e w a b n = absurd w

    new_unlinked : (p : Step) → (entry_at E m).step ≡ p → Way p → (a b : ℕ) → neighbours c a b ≡ false
        → is_send a b (entry_at E m).step ≡ false
    new_unlinked (enter i g) e w a b n = rw e
    new_unlinked (send i j g) e w a b n =
        rw e
        (by_test (eqb i a && eqb j b)
        (λ t. let k = both (eqb i a) _ t in
        let l : neighbours c a b ≡ true = rw (← eqb-true i a k.0, ← eqb-true j b k.1) w.linked in
        clash (sym l ∙ n)) (λ t. t))
    new_unlinked (recv i j) e w a b n = rw e
    new_unlinked (start i) e w a b n = rw e

    -- ---- the stations after it
    new_times : (k : ℕ) → k < c.n → (station_at s' k).time ≡ last_of E k (station_at s' k).phase (suc m)
    new_times k l =
        by_dec (ℕ_discrete (record_station E m) k)
        (λ e. let p : phase_of E m ≡ (station_at s' k).phase = rw (← e) (en.phase_is ∙ sym en.phase_same) in
        rw (eq-eqb (phase_of E m) (station_at s' k).phase p, eq-eqb (record_station E m) k e) (rw (← e) (sym en.counts-are)))
        (λ e. subst (λ (x : Station vector). x.time ≡ last_of E k x.phase (suc m)) (sym (en.others k (λ q. e (sym q))))
        (rw (ne_eqb (record_station E m) k e, and-false (eqb (phase_of E m) (station_at s k).phase)) (h.times k l)))

    same_phase : (k : ℕ) → (station_at s' k).phase ≡ (station_at s k).phase
    same_phase k = by_dec (ℕ_discrete k (record_station E m)) (λ e. rw e en.phase_same) (λ e. rw (en.others k e))

    -- what holds of the entries before it, and of it
    so_far : (P : ℕ → Type 0) → ((y : ℕ) → y < m → P y) → P m → (y : ℕ) → y < suc m → P y
    so_far P f p y l = by_dec (ℕ_discrete y m) (λ e. rw e p) (λ e. f y (omega arith))

    entry-history : History c E T s' (suc m)
    entry-history =
        record {
          times = new_times;
          above = so_far (λ x. phase_of E x ≤ (station_at s' (record_station E x)).phase) (λ x l. omega (arith, h.above x l, same_phase (record_station E x)))
              (omega (arith, en.phase_is, en.phase_same));
          links = new_links (entry_at E m).step refl en.how;
          unlinked = λ a b n. rw (new_unlinked (entry_at E m).step refl en.how a b n) (append-nil _ ∙ h.unlinked a b n);
          follows = so_far (Follows E T) h.follows (new_follows (entry_at E m).step refl en.how);
          inside = so_far (λ y. record_station E y < c.n) h.inside en.station_in;
          phases = λ x y l k. so_far (λ y. x < y → record_station E x ≡ record_station E y → phase_of E x ≤ phase_of E y) (λ y k l e. h.phases x y l k e)
              (λ l e. let a : phase_of E x ≤ (station_at s (record_station E m)).phase = rw e at (h.above x l) in omega (arith, en.phase_is)) y k l;
        }

-- ---- over a list of steps
module _ (c : Config) (u : Rules c) (E : List Accepted) (T : List (List Message)) where
  -- the entries and the messages taken that are still to come are X and U
  record At (s : State vector) (m : ℕ) (X : List Accepted) (U : List (List Message)) : Type 0 where
    history : History c E T s m
    entries : drop m E ≡ X
    messages : drop m T ≡ U
    number : m + length X ≡ length E

  one_step : (s s' : State vector) (p : Step) (a : Answer) (m : ℕ) (X : List Accepted) (U : List (List Message)) → Summary c s p a s'
      → At s m (with_entry p a X) (with_taken a (taken s p) U) → (m' : ℕ) × At s' m' X U
  one_step s s' p (refused k) m X U w h = (m, rw w h)
  one_step s s' p (mode_after i v f) m X U w h =
      (m, record { history = quiet_history c E T s s' m h.history i f v w; entries = h.entries; messages = h.messages; number = h.number })
  one_step s s' p (entry e) m X U w h =
      let d = drop_head E m (record { step = p; entry = e }) X h.entries no_entry in
      let t = drop_head T m (taken s p) U h.messages [] in
      let n = h.number in (
        suc m,
        record {
          history = entry-history c E T s s' m h.history u (omega arith) (rw d.0 w) (t.0 ∙ ap (λ (x : Accepted). taken s x.step) (sym d.0));
          entries = d.1;
          messages = t.1;
          number = omega arith;
        },
      )

  all_steps : (s : State vector) → Invariant c s → (ps : List Step) (m : ℕ) → At s m (accepted (log c s ps)) (takens c s ps) → History c E T (run c s ps) (length E)
  all_steps s v [] m h = let e : m ≡ length E = let n = h.number in omega arith in rw (← e) h.history
  all_steps s v (p ∷ ps) m h =
      let n = one_step s (step c s p).after p (step c s p).answer m _ _ (summary c u s v p) h in
      all_steps (step c s p).after (step_keeps c u s v p) ps n.0 n.1

  initial-history : History c E T (initial vector c) 0
  initial-history =
      record {
        times = λ i l. rw (initial_station_lem vector c i (omega (arith, u.small)));
        above = λ x l. absurd (omega arith);
        links = λ a b n. sym (initial-waiting vector c a b);
        unlinked = λ a b n. refl;
        follows = λ y l. absurd (omega arith);
        inside = λ y l. absurd (omega arith);
        phases = λ x y l k. absurd (omega arith);
      }

-- the entries of every list of steps from the initial network, and the state after it
pub run-history : (c : Config) → Rules c → (ps : List Step)
    → let E = accepted (log c (initial vector c) ps) in History c E (takens c (initial vector c) ps) (run c (initial vector c) ps) (length E)
run-history c u ps =
    all_steps c u _ _ (initial vector c) (initial-invariant vector c u) ps 0
    (record { history = initial-history c u _ _; entries = refl; messages = refl; number = omega arith })

-- ---- the entries beside the messages taken, and what the plain network is fed
-- there is a message list for each entry
pub takens-long : (c : Config) (s : State vector) (ps : List Step) → length (takens c s ps) ≡ length (accepted (log c s ps))
takens-long c s [] = refl
takens-long c s (p ∷ ps) = go (step c s p).answer (takens c (step c s p).after ps) (accepted (log c (step c s p).after ps)) (takens-long c (step c s p).after ps)
  where
    go : (a : Answer) (T : List (List Message)) (E : List Accepted) → length T ≡ length E → length (with_taken a (taken s p) T) ≡ length (with_entry p a E)
    go (refused k) T E h = h
    go (entry e) T E h = ap suc h
    go (mode_after i m f) T E h = h

-- what the plain network is fed for a phase is read off the entries
pub fed-entries : (f : ℕ) (l : List Answered) → fed f l ≡ fed_of f (accepted l)
fed-entries f [] = refl
fed-entries f (x ∷ l) = go x.answer (fed-entries f l)
  where
    go : (a : Answer) → fed f l ≡ fed_of f (accepted l) → of_phase f a x.step (fed f l) ≡ fed_of f (with_entry x.step a (accepted l))
    go (refused k) h = h
    go (entry e) h = rw h
    go (mode_after i m p) h = h
