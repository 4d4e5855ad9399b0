-- Well formed, part by part: the tests as facts, and how each change of a state keeps them. The bounds are apart, for they are tested of the state
-- after a step, not of those on the way. Assumes nothing.
use Prim.Native.Nat.{ℕ, zero, suc, ◌≤◌, ◌<◌}
use mathlib.Core.Path.{◌≡◌, refl, sym, ap, ◌∙◌}
use mathlib.Core.Logic.{◌≢◌}
use mathlib.Core.List.{List, [], ◌∷◌, ◌++◌}
use mathlib.Core.Bool.{Bool, true, false, not, ◌&&◌, true≢false}
use native.Mathlib.Omega.{arith}
use native.Mathlib.Decide.{ℕ_discrete}
use lib.Dec.{eqb}
use lib.ListN.{get_or, length}
use borrow.Author.Tests.{eqb-true, eq-eqb, leb-true, le-leb, not-true}
use Rattle.codec.specs.Every.{every}
use Rattle.codec.specs.Put.{put}
use Rattle.codec.proofs.EveryLaws.{both, join, every_at, every_of}
use Rattle.codec.proofs.PutLaws.{put_same, put_other, put_keeps}
use Rattle.clock.specs.Timestamp.{zeros}
use Rattle.reset.specs.Config.{Config, is_station, neighbours, limit_at, allowance_at}
use Rattle.reset.specs.Clock.{Clock}
use Rattle.reset.specs.State.{Item, reset_req, reset_done, Station, State, none_seen, station_at, link_at, req_seen, done_seen, sent_to, set_station, set_link, put_on, put_linked, put_first, put_on_all}
use Rattle.reset.specs.Steps.{begun, renewed, woken, begin_reset, renew, wake, Rule, rule_a, rule_b, rule_c, no_rule, rule_of, apply, turn_once, turn, entered, sending, receiving, with_req, with_done}
use Rattle.reset.specs.WellFormed.{mode_fits, phase_fits, own_fits, sent_fits_to, sent_fits, marks_fit_from, marks_fit, station_fits, item_fits, row_long, shape_fits}
use Rattle.reset.proofs.ClockRange.{ClockRange}
use Rattle.reset.proofs.Views.{zeros_at, none_at, station-set, station-set-other, link_set-station, station-set_link, link_set_lem, link_set-row, link_set_col}
use Rattle.reset.proofs.Cases.{by_test, by_dec}

-- ---- messages sent: eight numbers within limits
pub record Sent (c : Config) (i p : ℕ) (l : List ℕ) : Type 0 where
  pub eight : length l ≡ 8
  pub within : (j : ℕ) → j < 8 → get_or l j 0 ≤ limit_at c p i j

pub zeros-sent : (c : Config) (i p : ℕ) → Sent c i p zeros
unfolding zeros
zeros-sent c i p = record { eight = refl; within = λ j l. rw zeros_at (omega arith) }

-- one more to j
sent_more : (c : Config) (i p : ℕ) (l : List ℕ) (j : ℕ) → j < 8 → get_or l j 0 < limit_at c p i j → Sent c i p l → Sent c i p (put 0 l j (suc (get_or l j 0)))
sent_more c i p l j jl m h =
    record {
      eight = put_keeps 0 l j _ (omega (arith, h.eight)) ∙ h.eight;
      within = λ k kl. by_dec (ℕ_discrete k j) (λ e. rw (e, put_same) m) (λ e. rw (put_other 0 l j k (suc (get_or l j 0)) e) (h.within k kl));
    }

-- ---- marks: eight, none for a non-neighbour
pub record Marks (c : Config) (i : ℕ) (l : List Bool) : Type 0 where
  pub eight : length l ≡ 8
  pub none_far : (j : ℕ) → j < 8 → neighbours c i j ≡ false → get_or l j false ≡ false

pub none_marks : (c : Config) (i : ℕ) → Marks c i none_seen
unfolding none_seen
none_marks c i = record { eight = refl; none_far = λ j l e. none_at j }

-- one more, of the neighbour j
marks_more : (c : Config) (i : ℕ) (l : List Bool) (j : ℕ) → j < 8 → neighbours c i j ≡ true → Marks c i l → Marks c i (put false l j true)
marks_more c i l j jl ij h =
    record {
      eight = put_keeps false l j true (omega (arith, h.eight)) ∙ h.eight;
      none_far = λ k kl e. put_other false l j k true (λ p. true≢false (sym ij ∙ ap (neighbours c i) (sym p) ∙ e)) ∙ h.none_far k kl e;
    }

-- ---- the record of station i, but for its bounds
pub record Fits {K : Clock} (L : ClockRange K) (c : Config) (i : ℕ) (x : Station K) : Type 0 where
  pub time : L.Held c i x.time
  pub own : x.own ≤ allowance_at c x.phase i
  pub sent : Sent c i x.phase x.sent
  pub reqs : Marks c i x.reqs
  pub dones : Marks c i x.dones

module _ {K : Clock} (L : ClockRange K) (c : Config) (i : ℕ) (x : Station K) where
  pub fits_of : station_fits c i x ≡ true → Fits L c i x
  unfolding station_fits sent_fits marks_fit
  fits_of h =
      let p = both (K.time_fits c i x.time) _ h in
      let o = both (own_fits c i x) _ (both (phase_fits c i x) _ (both (mode_fits c i x) _ p.1).1).1 in
      let a = both (eqb (length x.sent) 8 && every 8 (sent_fits_to c i x)) _ o.1 in
      let s = both (eqb (length x.sent) 8) _ a.0 in
      let r = both (eqb (length x.reqs) 8) _ a.1 in
      let d = both (eqb (length x.dones) 8) _ r.1 in
      let m : (j : ℕ) → j < 8 → neighbours c i j ≡ false → (not (req_seen x j) ≡ true) × (not (done_seen x j) ≡ true)
      = λ j l e. both (not (req_seen x j)) _ (rw e at (every_at 8 (marks_fit_from c i x) j d.1 l)) in
      record {
        time = L.held c i x.time p.0;
        own = leb-true _ _ o.0;
        sent = record { eight = eqb-true _ _ s.0; within = λ j l. leb-true _ _ (every_at 8 (sent_fits_to c i x) j s.1 l) };
        reqs = record { eight = eqb-true _ _ r.0; none_far = λ j l e. not-true _ (m j l e).0 };
        dones = record { eight = eqb-true _ _ d.0; none_far = λ j l e. not-true _ (m j l e).1 };
      }

  -- with the bounds
  pub fits_back : K.time_fits c i x.time ≡ true → mode_fits c i x ≡ true → phase_fits c i x ≡ true → Fits L c i x → station_fits c i x ≡ true
  unfolding station_fits sent_fits marks_fit
  fits_back f m p h =
      join (K.time_fits c i x.time) _ f
      (join (mode_fits c i x) _ m
      (join (phase_fits c i x) _ p
      (join (own_fits c i x) _ (le-leb _ _ h.own)
      (join (eqb (length x.sent) 8 && every 8 (sent_fits_to c i x)) _
      (join (eqb (length x.sent) 8) _ (eq-eqb _ _ h.sent.eight) (every_of 8 (sent_fits_to c i x) (λ j l. le-leb _ _ (h.sent.within j l))))
      (join (eqb (length x.reqs) 8) _ (eq-eqb _ _ h.reqs.eight)
      (join (eqb (length x.dones) 8) _ (eq-eqb _ _ h.dones.eight)
      (every_of 8 (marks_fit_from c i x) (λ j l. by_test (neighbours c i j) (λ z. rw z) (λ z. rw (z, h.reqs.none_far j l z, h.dones.none_far j l z))))))))))

-- ---- how the record changes
module _ {K : Clock} (L : ClockRange K) (c : Config) (i : ℕ) (x : Station K) (h : Fits L c i x) where
  module _ (il : i < 8) (si : is_station c i ≡ true) where
    pub fits_entered : x.own < allowance_at c x.phase i → Fits L c i (entered i x)
    fits_entered l = record { time = L.tick-held c i x.time si il h.time; own = l; sent = h.sent; reqs = h.reqs; dones = h.dones }

    pub fits_sending : (j : ℕ) → j < 8 → sent_to x j < limit_at c x.phase i j → Fits L c i (sending i j x)
    fits_sending j jl l =
        record {
          time = L.sent-held c i j _ (L.tick-held c i x.time si il h.time);
          own = h.own;
          sent = sent_more c i x.phase x.sent j jl l h.sent;
          reqs = h.reqs;
          dones = h.dones;
        }

    pub fits_receiving : (j : ℕ) (w : K.Load) → K.load_fits c w ≡ true → Fits L c i (receiving i j w x)
    fits_receiving j w g =
        record {
          time = L.take-held c i j w x.time si il g h.time;
          own = h.own;
          sent = h.sent;
          reqs = h.reqs;
          dones = h.dones;
        }

  module _ (j : ℕ) (jl : j < 8) (ij : neighbours c i j ≡ true) where
    pub fits_req : Fits L c i (with_req j x)
    fits_req = record { time = h.time; own = h.own; sent = h.sent; reqs = marks_more c i x.reqs j jl ij h.reqs; dones = h.dones }

    pub fits_done : Fits L c i (with_done j x)
    fits_done = record { time = h.time; own = h.own; sent = h.sent; reqs = h.reqs; dones = marks_more c i x.dones j jl ij h.dones }

  fits_begun : Fits L c i (begun x)
  fits_begun = record { time = h.time; own = h.own; sent = h.sent; reqs = h.reqs; dones = none_marks c i }

  fits_renewed : Fits L c i (renewed x)
  fits_renewed = record { time = L.held c i K.start (L.start_fits c i); own = omega arith; sent = zeros-sent c i _; reqs = none_marks c i; dones = h.dones }

  fits_woken : Fits L c i (woken x)
  fits_woken = record { time = h.time; own = h.own; sent = h.sent; reqs = h.reqs; dones = h.dones }

-- ---- eight stations, eight rows of eight links
pub record Shaped {K : Clock} (s : State K) : Type 0 where
  pub stations8 : length s.stations ≡ 8
  pub links8 : length s.links ≡ 8
  pub row8 : (a : ℕ) → a < 8 → length (get_or s.links a []) ≡ 8

pub shaped_of : {K : Clock} (s : State K) → shape_fits s ≡ true → Shaped s
unfolding shape_fits
shaped_of s h =
    let p = both (eqb (length s.stations) 8) _ h in
    let q = both (eqb (length s.links) 8) _ p.1 in
    record { stations8 = eqb-true _ _ p.0; links8 = eqb-true _ _ q.0; row8 = λ a l. eqb-true _ _ (every_at 8 (row_long s) a q.1 l) }

pub shape_fits_lem : {K : Clock} (s : State K) → Shaped s → shape_fits s ≡ true
unfolding shape_fits
shape_fits_lem s h =
    join (eqb (length s.stations) 8) _ (eq-eqb _ _ h.stations8)
    (join (eqb (length s.links) 8) _ (eq-eqb _ _ h.links8) (every_of 8 (row_long s) (λ a l. eq-eqb _ _ (h.row8 a l))))

shaped_station : {K : Clock} (s : State K) (i : ℕ) (x : Station K) → i < 8 → Shaped s → Shaped (set_station s i x)
unfolding set_station
shaped_station s i x il h =
    record { stations8 = put_keeps _ s.stations i x (omega (arith, h.stations8)) ∙ h.stations8; links8 = h.links8; row8 = h.row8 }

shaped_link : {K : Clock} (s : State K) (i j : ℕ) (q : List (Item K)) → i < 8 → j < 8 → Shaped s → Shaped (set_link s i j q)
unfolding set_link
shaped_link s i j q il jl h =
    record {
      stations8 = h.stations8;
      links8 = put_keeps [] s.links i _ (omega (arith, h.links8)) ∙ h.links8;
      row8 = λ a al. by_dec (ℕ_discrete a i)
          (λ p. rw (p, put_same) (put_keeps [] (get_or s.links i []) j q (omega (arith, h.row8 i il)) ∙ h.row8 i il))
          (λ p. rw (put_other [] s.links i a (put [] (get_or s.links i []) j q) p) (h.row8 a al));
    }

-- ---- the items of a link
abbrev pub ItemsFit : {K : Clock} → Config → List (Item K) → Type 0
ItemsFit c q = (k : ℕ) → item_fits c (get_or q k reset_req) ≡ true

items_more : {K : Clock} (c : Config) (q : List (Item K)) (y : Item K) → ItemsFit c q → item_fits c y ≡ true → ItemsFit c (q ++ (y ∷ []))
items_more c [] y h e zero = e
items_more c [] y h e (suc k) = refl
items_more c (x ∷ q) y h e zero = h zero
items_more c (x ∷ q) y h e (suc k) = items_more c q y (λ m. h (suc m)) e k

-- ---- a state on the way through a step of station i: every part but the bounds of station i and of the links
pub record Parts {K : Clock} (L : ClockRange K) (c : Config) (i : ℕ) (s : State K) : Type 0 where
  pub shape : Shaped s
  pub here : Fits L c i (station_at s i)
  pub others : (k : ℕ) → k < 8 → k ≢ i → station_fits c k (station_at s k) ≡ true
  pub items : (a b : ℕ) → a < 8 → b < 8 → ItemsFit c (link_at s a b)

module _ {K : Clock} (L : ClockRange K) (c : Config) (i : ℕ) (il : i < 8) where
  pub parts_station : (s : State K) (x : Station K) → Fits L c i x → Parts L c i s → Parts L c i (set_station s i x)
  parts_station s x f h =
      record {
        shape = shaped_station s i x il h.shape;
        here = rw station-set f;
        others = λ k l n. rw (station-set-other s i x k n) (h.others k l n);
        items = λ a b al bl. rw link_set-station (h.items a b al bl);
      }

  pub parts_link : (s : State K) (a b : ℕ) (q : List (Item K)) → a < 8 → b < 8 → ItemsFit c q → Parts L c i s → Parts L c i (set_link s a b q)
  parts_link s a b q al bl f h =
      record {
        shape = shaped_link s a b q al bl h.shape;
        here = rw station-set_link h.here;
        others = λ k l n. rw station-set_link (h.others k l n);
        items = λ a' b' al' bl'. by_dec (ℕ_discrete a' a)
            (λ p. by_dec (ℕ_discrete b' b) (λ r. rw (p, r, link_set_lem) f) (λ r. rw (p, link_set_col s a b q b' r) (h.items a b' al bl')))
            (λ p. rw (link_set-row s a b q a' b' p) (h.items a' b' al' bl'));
      }

  module _ (y : Item K) (f : item_fits c y ≡ true) where
    pub parts_put : (s : State K) (b : ℕ) → b < 8 → Parts L c i s → Parts L c i (put_on s i b y)
    parts_put s b bl h = parts_link s i b _ il bl (items_more c (link_at s i b) y (h.items i b il bl) f) h

    parts_linked : (s : State K) (b : ℕ) → b < 8 → Parts L c i s → Parts L c i (put_linked c s i b y)
    unfolding put_linked
    parts_linked s b bl h = by_test (neighbours c i b) (λ e. rw e (parts_put s b bl h)) (λ e. rw e h)

    parts_first : (m : ℕ) → m ≤ 8 → (s : State K) → Parts L c i s → Parts L c i (put_first m c s i y)
    unfolding put_first
    parts_first zero l s h = h
    parts_first (suc m) l s h = parts_linked (put_first m c s i y) m (omega arith) (parts_first m (omega arith) s h)

    parts_all : (s : State K) → Parts L c i s → Parts L c i (put_on_all c s i y)
    unfolding put_on_all
    parts_all s h = parts_first 8 (omega arith) s h

  -- begin and the reset rules
  pub parts_begin : (s : State K) → Parts L c i s → Parts L c i (begin_reset c i s)
  unfolding begin_reset
  parts_begin s h = parts_all reset_req refl _ (parts_station s _ (fits_begun L c i _ h.here) h)

  parts_apply : (s : State K) → Parts L c i s → (r : Rule) → Parts L c i (apply c i s r)
  unfolding renew wake
  parts_apply s h rule_a = parts_all reset_done refl _ (parts_station s _ (fits_renewed L c i _ h.here) h)
  parts_apply s h rule_b = parts_station s _ (fits_woken L c i _ h.here) h
  parts_apply s h rule_c = parts_begin s h
  parts_apply s h no_rule = h

  parts_once : (s : State K) → Parts L c i s → Parts L c i (turn_once c i s)
  unfolding turn_once
  parts_once s h = parts_apply s h (rule_of c i (station_at s i))

  pub parts_turn : (s : State K) → Parts L c i s → Parts L c i (turn c i s)
  unfolding turn
  parts_turn s h = parts_once _ (parts_once _ (parts_once s h))
