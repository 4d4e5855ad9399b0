-- The record of every accepted entry is in range. Assumes nothing.
use Prim.Native.Nat.{ℕ, zero, suc, ◌≤◌, ◌<◌}
use mathlib.Core.Path.{◌≡◌, refl}
use mathlib.Core.Logic.{◌≢◌}
use mathlib.Core.List.{List, [], ◌∷◌}
use mathlib.Core.Bool.{true}
use native.Mathlib.Omega.{arith}
use lib.Dec.{eqb, leb, ltb}
use lib.ListN.{length, get_or}
use borrow.Author.Tests.{eqb-true, eqb-false, leb-true, le-leb, lt-ltb, ne_eqb, not-true}
use Rattle.codec.proofs.NumLaws.{below_of}
use Rattle.codec.proofs.EveryLaws.{both, every_at, every_of}
use Rattle.codec.proofs.PutLaws.{put_same}
use Rattle.clock.specs.Timestamp.{merged}
use Rattle.clock.specs.Range.{ceiling_of, counts_fit as clock_fits}
use Rattle.record.specs.Record.{peer_fits, record_fits}
use Rattle.block_test.specs.BlockTest.{has_link, peer_known, record_known}
use Rattle.reset.specs.Reach.{limit, linked}
use Rattle.reset.specs.Config.{Config, is_station, neighbours, places, well_made}
use Rattle.reset.proofs.ConfigLaws.{Rules, rules, shape, station-below, not_itself}
use Rattle.reset.specs.Clock.{vector, of_station, count_fits, timestamp_fits}
use Rattle.reset.specs.State.{Item, message, Station, State, station_at}
use Rattle.reset.specs.Steps.{Step, Entry, Answer, refused, entry, mode_after, Outcome, entered, entry_of, sending, receiving, step}
use Rattle.reset.specs.Network.{initial, log}
use Rattle.reset.specs.WellFormed.{register_fits, mode_fits, phase_fits, station_fits, item_fits_at, link_fits, well_formed, step_fits, StepsFit}
use Rattle.reset.proofs.Views.{station-set, station-set_link}
use Rattle.reset.proofs.StepLaws.{of_step}
use Rattle.reset.proofs.ClockRange.{counts-small, vector-range}
use Rattle.reset.proofs.Formed.{Formed, formed_of, initial-well_formed, step_well_formed}
use Rattle.causality.specs.HappenedBefore.{Accepted, with_entry, accepted, entry_at}
use Rattle.step_parts.specs.Answers.{event_record}
use Rattle.run_archive.specs.Claims.{InRange, AllInRange}
use Rattle.reset.proofs.Cases.{clash}

-- ---- from the tests of a well-formed state
module _ (c : Config) where
  -- eight counts in range, and the phase
  station-facts : (i : ℕ) (x : Station vector) → is_station c i ≡ true → station_fits c i x ≡ true → (timestamp_fits c c.t x.time ≡ true) × (x.phase ≤ 999999)
  unfolding station_fits
  station-facts i x si h =
      let p = both (timestamp_fits c (of_station c i c.t) x.time) _ h in
      let q = both (phase_fits c i x) _ (both (mode_fits c i x) _ p.1).1 in
      let a : timestamp_fits c (of_station c i c.t) x.time ≡ true = p.0 in
      let b : leb x.phase (of_station c i 999999) ≡ true = q.0 in
      (rw si at a, leb-true _ _ (rw si at b))

  -- the register number of a link's first message
  first_fits : (i j : ℕ) (w : List ℕ) (g : ℕ) (q : List (Item vector)) → link_fits c i j (message w g ∷ q) ≡ true → register_fits g ≡ true
  unfolding link_fits
  first_fits i j w g q h =
      let l : List (Item vector) = message w g ∷ q in
      (both (timestamp_fits c c.t w) _ (every_at (length l) (item_fits_at c l) 0 (both (leb (length l) (places c i j)) _ h).1 (omega arith))).1

  module _ (v : List ℕ) (h : timestamp_fits c c.t v ≡ true) where
    eight : length v ≡ 8
    unfolding timestamp_fits
    eight = eqb-true _ _ (both (eqb (length v) 8) _ h).0

    count_at_lem : (k : ℕ) → k < 8 → leb (get_or v k 0) (of_station c k c.t) ≡ true
    unfolding timestamp_fits
    count_at_lem k l = every_at 8 (count_fits c c.t v) k (both (eqb (length v) 8) _ h).1 l

    counts_known : clock_fits c.n c.t v ≡ true
    unfolding clock_fits is_station
    counts_known = every_of 8 (λ (k : ℕ). leb (get_or v k 0) (ceiling_of c.n c.t k)) (λ (k : ℕ) (l : k < 8). count_at_lem k l)

  has_link_lem : (i j : ℕ) → neighbours c i j ≡ true → has_link c.limits i j ≡ true
  unfolding neighbours linked limit has_link
  has_link_lem i j h =
      let d : get_or (get_or c.limits i []) j 0 ≢ 0 = eqb-false _ _ (not-true _ h) in
      lt-ltb 0 (get_or (get_or c.limits i []) j 0) (omega arith)

-- ---- a record with a peer that fits
module _ (c : Config) (w : well_made c ≡ true) (u : Rules c) where
  -- the peer of a record of kind k, of station i, with peer j
  record Peer (k i j : ℕ) : Type 0 where
    kind-small : k < 256
    peer-small : j < 256
    peer_fits_lem : peer_fits k i j ≡ true
    peer_known_lem : (g : ℕ) (x : Station vector) (b : ℕ) → peer_known c.n c.limits (event_record (entry_of k i j g x b)) ≡ true

  own-peer : (i : ℕ) → Peer 1 i 255
  unfolding peer_fits peer_known
  own-peer i = record { kind-small = omega arith; peer-small = omega arith; peer_fits_lem = refl; peer_known_lem = λ g x b. refl }

  module _ (i j : ℕ) (ij : neighbours c i j ≡ true) where
    sent-peer : Peer 2 i j
    unfolding peer_fits peer_known
    sent-peer =
        let l : j < c.n = u.inside i j ij in
        let m = u.small in
        record {
          kind-small = omega arith;
          peer-small = omega arith;
          peer_fits_lem = rw (lt-ltb j 8 (omega arith), ne_eqb j i (not_itself c u i j ij));
          peer_known_lem = λ g x b. rw (lt-ltb j c.n l, has_link_lem c i j ij);
        }

    received-peer : Peer 3 i j
    unfolding peer_fits peer_known
    received-peer =
        record {
          kind-small = omega arith;
          peer-small = sent-peer.peer-small;
          peer_fits_lem = sent-peer.peer_fits_lem;
          peer_known_lem = λ g x b. rw (lt-ltb j c.n (u.inside i j ij), has_link_lem c j i (u.both_ways i j ij));
        }

  in_range : (k i j g : ℕ) (x : Station vector) (b : ℕ) → Peer k i j → is_station c i ≡ true → station_fits c i x ≡ true → register_fits g ≡ true
      → 1 ≤ get_or x.time i 0 → InRange c (entry_of {K = vector} k i j g x b)
  unfolding record_fits record_known
  in_range k i j g x b p si f r o =
      let s = station-facts c i x si f in
      let n : i < c.n = station-below c i si in
      let m : c.n ≤ 8 = u.small in
      let t : c.t ≤ 65535 = (shape c w).ceiling in
      let l : x.phase ≤ 999999 = s.1 in
      let a : ltb i 8 ≡ true = lt-ltb i 8 (omega arith) in
      let z : g ≤ 4294967295 = leb-true _ _ r in
      let e : length x.time ≡ 8 = eight c x.time s.0 in
      record {
        fits = rw (a, p.peer_fits_lem, le-leb x.phase 999999 l, le-leb 1 (get_or x.time i 0) o);
        typed = record {
          kind = p.kind-small;
          station = omega arith;
          peer = p.peer-small;
          phase = omega arith;
          register = omega arith;
          eight = e;
          counts = below_of 65536 x.time (λ (d : ℕ) (y : d < length x.time). let q = counts-small c c.t x.time s.0 d (omega arith) in omega arith);
        };
        known = rw (lt-ltb i c.n n, p.peer_known_lem g x b, counts_known c x.time s.0);
      }

  -- ---- a step from a well-formed state
  of_entry : (e e' : Entry) → InRange c e → entry e ≡ entry e' → InRange c e'
  of_entry e e' r h = let q : e ≡ e' = cc in rw (← q) r

  abbrev Ranged : Step → Outcome vector → Type 0
  Ranged p o = Formed c o.after → step_fits p ≡ true → (e : Entry) → o.answer ≡ entry e → InRange c e

  below_8 : (i : ℕ) → is_station c i ≡ true → i < 8
  below_8 i si = omega (arith, station-below c i si, u.small)

  module _ (s : State vector) (h : Formed c s) where
    step_in_range : (p : Step) → Ranged p (step c s p)
    step_in_range =
        of_step c s Ranged (λ p k f z e q. clash (cc))
        (record {
          own = λ i g si l b f z e q. of_entry _ e (in_range 1 i 255 g (entered i (station_at s i)) 0 (own-peer i) si (rw station-set at (f.station i (below_8 i si))) z
              (let o = put_same 0 (station_at s i).time i (suc (get_or (station_at s i).time i 0)) in omega arith)) q;
          sent = λ i j g si ij m l b f z e q. of_entry _ e (in_range 2 i j g (sending i j (station_at s i)) 0 (sent-peer i j ij) si (rw (station-set_link, station-set) at (f.station i (below_8 i si))) z
              (let o = put_same 0 (station_at s i).time i (suc (get_or (station_at s i).time i 0)) in omega arith)) q;
          received = λ i j v g r si ij d b f z e q. of_entry _ e (in_range 3 i j g (receiving i j v (station_at s i)) _ (received-peer i j ij) si (rw (station-set_link, station-set) at (f.station i (below_8 i si)))
              (first_fits c j i v g r (rw d at (h.link j i (let n = u.inside i j ij in let m = u.small in omega arith) (below_8 i si))))
              (let o = put_same 0 (merged (station_at s i).time v) i (suc (get_or (station_at s i).time i 0)) in omega arith)) q;
          req = λ i j r si ij d b f z e q. clash (cc);
          done = λ i j r si ij d b f z e q. clash (cc);
          started = λ i si m l b f z e q. clash (cc);
        })

  -- ---- a list of steps
  run_in_range : (s : State vector) → well_formed c s ≡ true → (ps : List Step) → StepsFit ps
      → (k : ℕ) → k < length (accepted (log c s ps)) → InRange c (entry_at (accepted (log c s ps)) k).entry
  run_in_range s h [] f k l = absurd (omega arith)
  run_in_range s h (p ∷ ps) f k l =
      let w' : well_formed c (step c s p).after ≡ true = step_well_formed vector-range c s h p f.0 in
      go (step c s p).answer (accepted (log c (step c s p).after ps))
      (λ e q. step_in_range s (formed_of c s h) p (formed_of c _ w') f.0 e q)
      (run_in_range (step c s p).after w' ps f.1) k l
    where
      go : (a : Answer) (E : List Accepted) → ((e : Entry) → a ≡ entry e → InRange c e) → ((k : ℕ) → k < length E → InRange c (entry_at E k).entry)
          → (k : ℕ) → k < length (with_entry p a E) → InRange c (entry_at (with_entry p a E) k).entry
      go (refused m) E x r k l = r k l
      go (mode_after i m q) E x r k l = r k l
      go (entry e) E x r zero l = x e refl
      go (entry e) E x r (suc k) l = r k (omega arith)

pub all_in_range : AllInRange
all_in_range c w r ps f k l = run_in_range c w (rules c w r) (initial vector c) (initial-well_formed vector-range c w r) ps f k l
