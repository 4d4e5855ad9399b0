-- The news of a receipt in a well-formed network of n stations: it is of the n - 1 others at most. Assumes nothing.
use Prim.Native.Nat.{ℕ, ◌<◌, ◌≤◌}
use native.Mathlib.Omega.{arith}
use mathlib.Core.Path.{◌≡◌, refl}
use mathlib.Core.Bool.{true, false}
use borrow.Author.Tests.{ltb-true, le-ltb}
use Rattle.codec.proofs.EveryLaws.{both}
use Rattle.clock.proofs.NewsLaws.{news-below}
use Rattle.reset.specs.Config.{Config, well_made, is_station}
use Rattle.reset.specs.Clock.{vector, of_station, timestamp_fits}
use Rattle.reset.specs.State.{State, station_at}
use Rattle.reset.specs.Steps.{Step, enter, send, recv, start, Entry, entry, Outcome, receiving, step}
use Rattle.reset.specs.WellFormed.{station_fits, well_formed}
use Rattle.reset.proofs.Cases.{clash}
use Rattle.reset.proofs.Views.{station-set, station-set_link}
use Rattle.reset.proofs.ConfigLaws.{shape}
use Rattle.reset.proofs.StepLaws.{of_step, entry_same, news-told}
use Rattle.reset.proofs.ClockRange.{none_above, vector-range}
use Rattle.reset.proofs.Formed.{Formed, formed_of, step_well_formed}

module _ (c : Config) (s : State vector) (h : well_formed c s ≡ true) where
  small : (1 ≤ c.n) × (c.n ≤ 8)
  small = let w = shape c (both (well_made c) _ (formed_of c s h).accepted).0 in (w.some_station, w.small)

  below : (i : ℕ) → is_station c i ≡ true → i < c.n
  unfolding is_station
  below i e = ltb-true i c.n e

  not-above : (k : ℕ) → c.n ≤ k → is_station c k ≡ false
  unfolding is_station
  not-above k l = le-ltb k c.n l

  abbrev Few : Step → Outcome vector → Type 0
  Few p o = Formed c o.after → (e : Entry) → o.answer ≡ entry e → e.news < c.n

  few : (p : Step) → Few p (step c s p)
  unfolding station_fits
  few =
      of_step c s Few (λ p k f e q. clash (cc))
      (record {
        own = λ i g si l b f e q. rw (← entry_same _ e q) (omega (arith, small));
        sent = λ i j g si ij m l b f e q. rw (← entry_same _ e q) (omega (arith, small));
        received = λ i j v g r si ij d b f e q.
            let x = receiving {K = vector} i j v (station_at s i) in
            let t : station_fits c i x ≡ true = rw (station-set_link, station-set) at (f.station i (omega (arith, small, below i si))) in
            let u : timestamp_fits c (of_station c i c.t) x.time ≡ true = (both (timestamp_fits c (of_station c i c.t) x.time) _ t).0 in
            rw (← entry_same _ e q) (news-below c.n i _ _ (below i si) small.1 (λ k a y. none_above c _ x.time u k y (not-above k a)));
        req = λ i j r si ij d b f e q. clash (cc);
        done = λ i j r si ij d b f e q. clash (cc);
        started = λ i si m l b f e q. clash (cc);
      })

-- each step of a well-formed network
pub news_of-others : (c : Config) (s : State vector) → well_formed c s ≡ true → (p : Step) (e : Entry) → (step c s p).answer ≡ entry e → e.news < c.n
news_of-others c s h (enter i g) e q = omega (arith, small c s h, news-told c s (enter i g) e q)
news_of-others c s h (send i j g) e q = omega (arith, small c s h, news-told c s (send i j g) e q)
news_of-others c s h (recv i j) e q = few c s h (recv i j) (formed_of c _ (step_well_formed vector-range c s h (recv i j) refl)) e q
news_of-others c s h (start i) e q = absurd (news-told c s (start i) e q)
