-- The initial network is well formed, and every step leaves a well-formed state well formed; such a state is in bounds. Assumes nothing.
use Prim.Native.Nat.{ℕ, zero, suc, ◌≤◌, ◌<◌}
use mathlib.Core.Path.{◌≡◌, refl, ◌∙◌}
use mathlib.Core.List.{List, [], ◌∷◌}
use mathlib.Core.Bool.{true, false, ◌&&◌}
use native.Mathlib.Omega.{arith}
use native.Mathlib.Decide.{ℕ_discrete}
use lib.Dec.{leb}
use lib.ListN.{get_or, length, replicate}
use borrow.Author.Tests.{leb-true, le-leb}
use Rattle.codec.specs.Every.{every}
use Rattle.codec.proofs.EveryLaws.{both, join, every_at, every_of}
use Rattle.codec.proofs.Stride.{upto_at, upto-length}
use Rattle.reset.specs.Config.{Config, is_station, neighbours, limit_at, allowance_at, places, well_made, network_rules}
use Rattle.reset.proofs.ConfigLaws.{Rules, rules, station-below, neighbour-small}
use Rattle.reset.specs.Clock.{Clock, of_station}
use Rattle.reset.specs.State.{Item, message, reset_req, reset_done, Station, State, station_at, link_at, sent_to}
use Rattle.reset.specs.Steps.{in_bounds, Step, do_enter, sending, do_send, do_receive, do_mark, do_start, step, phase_bounded, count_bounded, link_bounded}
use Rattle.reset.specs.Network.{initial_station, initial}
use Rattle.reset.specs.WellFormed.{register_fits, mode_fits, phase_fits, station_fits, item_fits, item_fits_at, link_fits, shape_fits, station_fits_at, link_fits_at, well_formed, step_fits}
use Rattle.reset.proofs.Views.{station-set, station-set_link}
use Rattle.reset.proofs.StepLaws.{of_step}
use Rattle.reset.proofs.Initial.{initial_station_lem, initial-link}
use Rattle.reset.proofs.ClockRange.{AtMost, ClockRange, of_small}
use Rattle.reset.proofs.FormedParts.{zeros-sent, none_marks, Fits, fits_of, fits_back, fits_entered, fits_sending, fits_receiving, fits_req, fits_done, Shaped, shaped_of, shape_fits_lem, ItemsFit, Parts, parts_station, parts_link, parts_put, parts_begin, parts_turn}
use Rattle.reset.proofs.Cases.{by_test, by_dec}

-- ---- the tests of a whole state as facts
pub record Formed {K : Clock} (c : Config) (s : State K) : Type 0 where
  pub accepted : (well_made c && network_rules c) ≡ true
  pub shape : shape_fits s ≡ true
  pub station : (i : ℕ) → i < 8 → station_fits c i (station_at s i) ≡ true
  pub link : (i j : ℕ) → i < 8 → j < 8 → link_fits c i j (link_at s i j) ≡ true

module _ {K : Clock} (c : Config) (s : State K) where
  pub formed_of : well_formed c s ≡ true → Formed c s
  unfolding well_formed
  formed_of h =
      let p = both (well_made c && network_rules c) _ h in
      let q = both (shape_fits s) _ p.1 in
      let r = both (every 8 (station_fits_at c s)) _ q.1 in
      record {
        accepted = p.0;
        shape = q.0;
        station = λ i l. every_at 8 (station_fits_at c s) i r.0 l;
        link = λ i j il jl. every_at 8 (link_fits_at c s i) j (every_at 8 (λ (i : ℕ). every 8 (link_fits_at c s i)) i r.1 il) jl;
      }

  pub formed_back : Formed c s → well_formed c s ≡ true
  unfolding well_formed
  formed_back h =
      join (well_made c && network_rules c) _ h.accepted
      (join (shape_fits s) _ h.shape
      (join (every 8 (station_fits_at c s)) _ (every_of 8 (station_fits_at c s) h.station)
      (every_of 8 (λ (i : ℕ). every 8 (link_fits_at c s i)) (λ i il. every_of 8 (link_fits_at c s i) (λ j jl. h.link i j il jl)))))

-- ---- the items of a link
module _ {K : Clock} (c : Config) (i j : ℕ) (q : List (Item K)) where
  items_of : link_fits c i j q ≡ true → ItemsFit c q
  unfolding link_fits
  items_of h k = past q k (every_at (length q) (item_fits_at c q) k (both (leb (length q) (places c i j)) _ h).1)
    where
      past : (q : List (Item K)) (k : ℕ) → (k < length q → item_fits c (get_or q k reset_req) ≡ true) → item_fits c (get_or q k reset_req) ≡ true
      past [] k f = refl
      past (x ∷ q) zero f = f (omega arith)
      past (x ∷ q) (suc k) f = past q k (λ l. f (omega arith))

  link_fits_lem : leb (length q) (places c i j) ≡ true → ItemsFit c q → link_fits c i j q ≡ true
  unfolding link_fits
  link_fits_lem l f = join (leb (length q) (places c i j)) _ l (every_of (length q) (item_fits_at c q) (λ k kl. f k))

-- ---- the bounds, part by part
pub record Bounds {K : Clock} (c : Config) (s : State K) : Type 0 where
  pub phases : (i : ℕ) → i < 8 → phase_bounded s i ≡ true
  pub counts : (i k : ℕ) → i < 8 → k < 8 → count_bounded c s i k ≡ true
  pub links : (i j : ℕ) → i < 8 → j < 8 → link_bounded c s i j ≡ true

pub bounds : {K : Clock} (c : Config) (s : State K) → in_bounds c s ≡ true → Bounds c s
unfolding in_bounds
bounds c s h =
    let a = both (every 8 (phase_bounded s)) _ h in
    let b = both (every 8 (λ (i : ℕ). every 8 (count_bounded c s i))) _ a.1 in
    record {
      phases = λ i l. every_at 8 (phase_bounded s) i a.0 l;
      counts = λ i k l m. every_at 8 (count_bounded c s i) k (every_at 8 (λ (i : ℕ). every 8 (count_bounded c s i)) i b.0 l) m;
      links = λ i j l m. every_at 8 (link_bounded c s i) j (every_at 8 (λ (i : ℕ). every 8 (link_bounded c s i)) i b.1 l) m;
    }

pub in_bounds_lem : {K : Clock} (c : Config) (s : State K) → Bounds c s → in_bounds c s ≡ true
unfolding in_bounds
in_bounds_lem c s b =
    join _ _ (every_of 8 (phase_bounded s) b.phases)
    (join _ _ (every_of 8 (λ (i : ℕ). every 8 (count_bounded c s i)) (λ i l. every_of 8 (count_bounded c s i) (λ k m. b.counts i k l m)))
    (every_of 8 (λ (i : ℕ). every 8 (link_bounded c s i)) (λ i l. every_of 8 (link_bounded c s i) (λ j m. b.links i j l m))))

module _ {K : Clock} (L : ClockRange K) (c : Config) (i : ℕ) (x : Station K) (h : station_fits c i x ≡ true) where
  pub station-counts : AtMost c.t (K.stamp i x.time)
  unfolding station_fits
  station-counts = L.small c i x.time (both (K.time_fits c i x.time) _ h).0

  pub station-phase : x.phase ≤ 999999
  unfolding station_fits
  station-phase =
      let p = both (K.time_fits c i x.time) _ h in
      let q = both (mode_fits c i x) _ p.1 in
      of_small c i 999999 x.phase (leb-true _ _ (both (phase_fits c i x) _ q.1).0)

pub formed-bounds : {K : Clock} (L : ClockRange K) (c : Config) (s : State K) → well_formed c s ≡ true → Bounds c s
unfolding link_fits
formed-bounds L c s h =
    let f = formed_of c s h in
    record {
      phases = λ i l. le-leb _ _ (station-phase L c i (station_at s i) (f.station i l));
      counts = λ i k l m. le-leb _ _ (station-counts L c i (station_at s i) (f.station i l) k m);
      links = λ i j l m. (both (leb (length (link_at s i j)) (places c i j)) _ (f.link i j l m)).0;
    }

-- ---- a step of station i, from a well-formed state
module _ {K : Clock} (L : ClockRange K) (c : Config) (s : State K) (h : Formed c s) where
  header : Rules c
  header = let p = both (well_made c) _ h.accepted in rules c p.0 p.1

  module _ (i : ℕ) (si : is_station c i ≡ true) where
    below : i < 8
    below = omega (arith, station-below c i si, header.small)

    parts : Parts L c i s
    parts =
        record {
          shape = shaped_of s h.shape;
          here = fits_of L c i (station_at s i) (h.station i below);
          others = λ k l n. h.station k l;
          items = λ a b al bl. items_of c a b (link_at s a b) (h.link a b al bl);
        }

    -- the state after it is in bounds
    closed : (s' : State K) → Parts L c i s' → in_bounds c s' ≡ true → Formed c s'
    closed s' p b =
        let z = bounds c s' b in
        record {
          accepted = h.accepted;
          shape = shape_fits_lem s' p.shape;
          station = λ k l. by_dec (ℕ_discrete k i)
              (λ e. rw e (fits_back L c i (station_at s' i) (L.fits c i _ si p.here.time (λ d dl. leb-true _ _ (z.counts i d below dl))) (rw si) (rw si (z.phases i below)) p.here))
              (λ n. p.others k l n);
          link = λ a d al dl. link_fits_lem c a d (link_at s' a d) (z.links a d al dl) (p.items a d al dl);
        }

    formed-enter : (g : ℕ) → (station_at s i).own < allowance_at c (station_at s i).phase i → in_bounds c (do_enter i g s).after ≡ true → Formed c (do_enter i g s).after
    formed-enter g l b = closed _ (parts_station L c i below s _ (fits_entered L c i _ parts.here below si l) parts) b

    module _ (j : ℕ) (ij : neighbours c i j ≡ true) where
      near : j < 8
      near = neighbour-small c header i j ij

      -- what the message carries is in range, for the sender's counts after the step are
      formed-send : (g : ℕ) → register_fits g ≡ true → sent_to (station_at s i) j < limit_at c (station_at s i).phase i j
          → in_bounds c (do_send i j g s).after ≡ true → Formed c (do_send i j g s).after
      formed-send g r l b =
          let x = sending i j (station_at s i) in
          let f = fits_sending L c i _ parts.here below si j near l in
          let e : station_at (do_send i j g s).after i ≡ x = station-set_link _ i j _ i ∙ station-set s i x in
          let v = K.tick i (station_at s i).time in
          let u : AtMost c.t (K.stamp i x.time) = λ k kl. leb-true _ _ (rw e at ((bounds c _ b).counts i k below kl)) in
          let y : Item K = message (K.load i j v) g in
          let m : item_fits c y ≡ true
          = join (K.load_fits c (K.load i j v)) _ (L.load_fits_lem c i j v (L.tick-held c i _ si below parts.here.time) u) r in
          closed _ (parts_put L c i below _ m _ j near (parts_station L c i below s x f parts)) b

      -- the rest of a link, of which the first item is taken
      rest : (y : Item K) (q : List (Item K)) → link_at s j i ≡ y ∷ q → ItemsFit c (y ∷ q)
      rest y q e = rw e at (parts.items j i near below)

      formed-receive : (w : K.Load) (g : ℕ) (q : List (Item K)) → link_at s j i ≡ message w g ∷ q
          → in_bounds c (do_receive i j w g q s).after ≡ true → Formed c (do_receive i j w g q s).after
      formed-receive w g q e b =
          let z = rest (message w g) q e in
          let k = (both (K.load_fits c w) _ (z zero)).0 in
          closed _ (parts_link L c i below _ j i q near below (λ m. z (suc m)) (parts_station L c i below s _ (fits_receiving L c i _ parts.here below si j w k) parts)) b

      formed_mark : (x : Station K) (y : Item K) (q : List (Item K)) → link_at s j i ≡ y ∷ q → Fits L c i x
          → in_bounds c (do_mark c i j x q s).after ≡ true → Formed c (do_mark c i j x q s).after
      formed_mark x y q e f b =
          closed _ (parts_turn L c i below _ (parts_link L c i below _ j i q near below (λ m. rest y q e (suc m)) (parts_station L c i below s x f parts))) b

    formed_start : in_bounds c (do_start c i s).after ≡ true → Formed c (do_start c i s).after
    formed_start b = closed _ (parts_turn L c i below _ (parts_begin L c i below s parts)) b

  formed_step : (p : Step) → step_fits p ≡ true → Formed c (step c s p).after
  formed_step =
      of_step c s (λ p o. step_fits p ≡ true → Formed c o.after) (λ p k z. h)
      (record {
        own = λ i g si l b z. formed-enter i si g l b;
        sent = λ i j g si ij m l b z. formed-send i si j ij g z l b;
        received = λ i j w g q si ij e b z. formed-receive i si j ij w g q e b;
        req = λ i j q si ij e b z. formed_mark i si j ij _ reset_req q e (fits_req L c i _ (parts i si).here j (near i si j ij) ij) b;
        done = λ i j q si ij e b z. formed_mark i si j ij _ reset_done q e (fits_done L c i _ (parts i si).here j (near i si j ij) ij) b;
        started = λ i si m l b z. formed_start i si b;
      })

-- ---- the initial network
module _ {K : Clock} (L : ClockRange K) (c : Config) where
  initial_fits : (i : ℕ) → Fits L c i (initial_station K c i)
  initial_fits i =
      record {
        time = L.held c i K.start (L.start_fits c i);
        own = omega arith;
        sent = zeros-sent c i 0;
        reqs = none_marks c i;
        dones = record { eight = upto-length 8 (neighbours c i); none_far = λ j l e. upto_at 8 (neighbours c i) j false l ∙ e };
      }

  initial-shape : Shaped (initial K c)
  unfolding initial
  initial-shape = record { stations8 = upto-length 8 (initial_station K c); links8 = refl; row8 = λ a l. row 8 a l }
    where
      row : (n a : ℕ) → a < n → length (get_or (replicate n (replicate {A = List (Item K)} 8 [])) a []) ≡ 8
      row zero a l = absurd (omega arith)
      row (suc n) zero l = refl
      row (suc n) (suc a) l = row n a (omega arith)

  initial-formed : (well_made c && network_rules c) ≡ true → Formed c (initial K c)
  initial-formed h =
      record {
        accepted = h;
        shape = shape_fits_lem _ initial-shape;
        station = λ i l.
            rw (initial_station_lem K c i l)
            (fits_back L c i (initial_station K c i) (L.start_fits c i) (by_test (is_station c i) (λ e. rw e) (λ e. rw e)) (le-leb 0 (of_station c i 999999) (omega arith)) (initial_fits i));
        link = λ i j il jl. rw initial-link (link_fits_lem c i j [] (le-leb 0 (places c i j) (omega arith)) (λ k. refl));
      }

-- ---- the theorems
module _ {K : Clock} (L : ClockRange K) (c : Config) where
  pub initial-well_formed : well_made c ≡ true → network_rules c ≡ true → well_formed c (initial K c) ≡ true
  initial-well_formed h r = formed_back c _ (initial-formed L c (join (well_made c) _ h r))

  pub step_well_formed : (s : State K) → well_formed c s ≡ true → (p : Step) → step_fits p ≡ true → well_formed c (step c s p).after ≡ true
  step_well_formed s h p f = formed_back c _ (formed_step L c s (formed_of c s h) p f)
