-- What a clock keeps of its ranges, so that every step leaves a well-formed state well formed; and that the vector clock does. Assumes nothing.
use Prim.Native.Nat.{ℕ, ◌≤◌, ◌<◌}
use mathlib.Core.Path.{◌≡◌, refl, sym, ap, ◌∙◌}
use mathlib.Core.List.{List}
use mathlib.Core.Bool.{true, false, true≢false}
use native.Mathlib.Omega.{arith}
use lib.Dec.{eqb, leb}
use lib.ListN.{get_or, length}
use borrow.Author.Tests.{eqb-true, eq-eqb, leb-true, le-leb}
use Rattle.codec.specs.Put.{put}
use Rattle.codec.proofs.EveryLaws.{both, join, every_at, every_of}
use Rattle.codec.proofs.PutLaws.{put_other, put_keeps}
use Rattle.clock.specs.Timestamp.{zeros, merged}
use Rattle.clock.proofs.MergeLaws.{merged-length, merged_at}
use Rattle.reset.specs.Config.{Config, is_station}
use Rattle.reset.specs.Clock.{Clock, vector, of_station, count_fits, timestamp_fits}
use Rattle.reset.proofs.Views.{zeros_at}
use Rattle.reset.proofs.Cases.{by_test}

-- each of eight counts is at most b
abbrev pub AtMost : ℕ → List ℕ → Type 0
AtMost b v = (k : ℕ) → k < 8 → get_or v k 0 ≤ b

-- `Held` is what a time in range keeps while a step changes it; with the bounds, which are tested of the state after, it is in range again.
pub record ClockRange (K : Clock) : Type 1 where
  pub Held : Config → ℕ → K.Time → Type 0
  pub held : (c : Config) (i : ℕ) (v : K.Time) → K.time_fits c i v ≡ true → Held c i v
  pub small : (c : Config) (i : ℕ) (v : K.Time) → K.time_fits c i v ≡ true → AtMost c.t (K.stamp i v)
  pub fits : (c : Config) (i : ℕ) (v : K.Time) → is_station c i ≡ true → Held c i v → AtMost c.t (K.stamp i v) → K.time_fits c i v ≡ true
  pub start_fits : (c : Config) (i : ℕ) → K.time_fits c i K.start ≡ true
  pub tick-held : (c : Config) (i : ℕ) (v : K.Time) → is_station c i ≡ true → i < 8 → Held c i v → Held c i (K.tick i v)
  pub sent-held : (c : Config) (i j : ℕ) (v : K.Time) → Held c i v → Held c i (K.sent i j v)
  pub take-held : (c : Config) (i j : ℕ) (w : K.Load) (v : K.Time) → is_station c i ≡ true → i < 8 → K.load_fits c w ≡ true → Held c i v
      → Held c i (K.take i j w v)
  pub load_fits_lem : (c : Config) (i j : ℕ) (v : K.Time) → Held c i v → AtMost c.t (K.stamp i (K.sent i j v)) → K.load_fits c (K.load i j v) ≡ true

-- ---- counts: eight, and 0 for stations n and above
record Counts (c : Config) (v : List ℕ) : Type 0 where
  eight : length v ≡ 8
  none_above : (k : ℕ) → k < 8 → is_station c k ≡ false → get_or v k 0 ≡ 0

module _ (c : Config) (v : List ℕ) where
  counts_of : (b : ℕ) → timestamp_fits c b v ≡ true → Counts c v
  unfolding timestamp_fits
  counts_of b h =
      let p = both (eqb (length v) 8) _ h in
      record {
        eight = eqb-true _ _ p.0;
        none_above = λ k l z. let q : leb (get_or v k 0) (of_station c k b) ≡ true = every_at 8 (count_fits c b v) k p.1 l in
            let r : get_or v k 0 ≤ 0 = leb-true _ _ (rw z at q) in omega arith;
      }

  counts_fit_lem : (b : ℕ) → Counts c v → ((k : ℕ) → k < 8 → get_or v k 0 ≤ b) → timestamp_fits c b v ≡ true
  unfolding timestamp_fits
  counts_fit_lem b h u =
      join (eqb (length v) 8) _ (eq-eqb _ _ h.eight)
      (every_of 8 (count_fits c b v) (λ k l. by_test (is_station c k) (λ e. rw e (le-leb _ _ (u k l))) (λ e. rw (e, h.none_above k l e))))

zeros-counts : (c : Config) → Counts c zeros
unfolding zeros
zeros-counts c = record { eight = refl; none_above = λ k l e. zeros_at k }

-- i's own count replaced
own-counts : (c : Config) (i : ℕ) → is_station c i ≡ true → (v : List ℕ) (b : ℕ) → i < 8 → Counts c v → Counts c (put 0 v i b)
own-counts c i si v b il h =
    record {
      eight = put_keeps 0 v i b (omega (arith, h.eight)) ∙ h.eight;
      none_above = λ k l e. put_other 0 v i k b (λ p. true≢false (sym si ∙ ap (is_station c) (sym p) ∙ e)) ∙ h.none_above k l e;
    }

merged-counts : (c : Config) (v w : List ℕ) → Counts c v → Counts c w → Counts c (merged v w)
merged-counts c v w h g =
    record {
      eight = merged-length v w ∙ h.eight;
      none_above = λ k l e. merged_at v w k (omega (arith, h.eight)) ∙ omega (arith, h.none_above k l e, g.none_above k l e);
    }

-- a bound of 0 for stations n and above is no more than the bound itself
pub of_small : (c : Config) (i b x : ℕ) → x ≤ of_station c i b → x ≤ b
of_small c i b x h = by_test (is_station c i) (λ e. rw e at h) (λ e. let z : x ≤ 0 = rw e at h in omega arith)

-- counts that fit are 0 for stations n and above
pub none_above : (c : Config) (b : ℕ) (v : List ℕ) → timestamp_fits c b v ≡ true → (k : ℕ) → k < 8 → is_station c k ≡ false → get_or v k 0 ≡ 0
none_above c b v h = (counts_of c v b h).none_above

-- every count of eight that fit is at most the bound
pub counts-small : (c : Config) (b : ℕ) (v : List ℕ) → timestamp_fits c b v ≡ true → AtMost b v
unfolding timestamp_fits
counts-small c b v h k l =
    let p = both (eqb (length v) 8) _ h in
    of_small c k b (get_or v k 0) (leb-true _ _ (every_at 8 (count_fits c b v) k p.1 l))

pub vector-range : ClockRange vector
vector-range =
    record {
      Held = λ c i v. Counts c v;
      held = λ c i v h. counts_of c v _ h;
      small = λ c i v h k l. of_small c i c.t _ (counts-small c _ v h k l);
      fits = λ c i v si h u. rw si (counts_fit_lem c v c.t h u);
      start_fits = λ c i. counts_fit_lem c zeros _ (zeros-counts c) (λ k l. rw zeros_at (omega arith));
      tick-held = λ c i v si il h. own-counts c i si v _ il h;
      sent-held = λ c i j v h. h;
      take-held = λ c i j w v si il f h. own-counts c i si (merged v w) _ il (merged-counts c v w h (counts_of c w c.t f));
      load_fits_lem = λ c i j v h u. counts_fit_lem c v c.t h u;
    }
