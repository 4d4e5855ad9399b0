-- The bounds are those of the whole state after a step; only the stepping station and its links out can be beyond one.
-- So an entry meets one where the own count is at the ceiling or, for a send, the link is full; a control item
-- taken, or a start, where the phase is past its last or a link out has no room. Assumes nothing.
use Prim.Native.Nat.{ℕ, ◌≤◌, ◌<◌, zero, suc, ◌+◌}
use mathlib.Core.Path.{◌≡◌, refl, sym, ◌∙◌, ap}
use mathlib.Core.Logic.{◌≢◌}
use mathlib.Core.Bool.{Bool, true, false, ◌&&◌, and-true, not, ◌||◌}
use mathlib.Core.List.{List, ◌∷◌, [], ◌++◌, append_assoc, append-nil}
use native.Mathlib.Omega.{arith}
use native.Mathlib.Decide.{ℕ_discrete}
use lib.ListN.{length, get_or, length-append}
use lib.Dec.{leb}
use borrow.Author.Tests.{leb-true, le-leb}
use Rattle.codec.specs.Every.{every}
use Rattle.codec.proofs.EveryLaws.{bool_iff, both, join, every_at, every_of}
use Rattle.codec.proofs.PutLaws.{put_same, put_other}
use Rattle.clock.specs.Timestamp.{tick, merged, raised}
use Rattle.reset.specs.Config.{Config, places, neighbours}
use Rattle.reset.specs.Clock.{Clock, vector}
use Rattle.reset.specs.State.{Item, State, station_at, link_at, set_link, message, Station, set_station, put_on_all}
use Rattle.reset.proofs.Formed.{Bounds, bounds, in_bounds_lem}
use Rattle.reset.specs.Steps.{phase_bounded, count_bounded, link_bounded, in_bounds, entered, sending, receiving, do_enter, do_send, do_receive, Rule, rule_a, rule_b, rule_c, no_rule, rule_of, applied}
use Rattle.reset.proofs.Cases.{by_dec, by_test}
use Rattle.reset.proofs.Views.{link_set_lem, link_set-row, link_set_col, station-set, station-set-other, link_set-station, station-set_link, zeros_at, station-put_all, link-put_all, link-put_all_far, link-put_all_row}
use Rattle.reset_rules.specs.Turn.{Turning, turned_once, turned_all, turned, started, put_items}

-- the bounds of station i and of its links out
unfoldable pub local_bounds : {K : Clock} → Config → State K → ℕ → Bool
local_bounds c s i = phase_bounded s i && (every 8 (count_bounded c s i) && every 8 (link_bounded c s i))

-- with its first item taken off, no link is longer
pub taken_shorter : {K : Clock} (s : State K) (j i : ℕ) (y : Item K) (q : List (Item K)) → link_at s j i ≡ y ∷ q
    → (a b : ℕ) → length (link_at (set_link s j i q) a b) ≤ length (link_at s a b)
taken_shorter s j i y q e a b =
    by_dec (ℕ_discrete a j)
    (λ p. by_dec (ℕ_discrete b i) (λ r. rw (p, r, link_set_lem s j i q, e) (omega arith)) (λ r. rw (p, link_set_col s j i q b r) (omega arith)))
    (λ p. rw (link_set-row s j i q a b p) (omega arith))

-- from a state in bounds, where no other station's record has changed and no other station's link has grown
module _ {K : Clock} (c : Config) (s s' : State K) (i : ℕ) (il : i < 8) (v : Bounds c s)
    (others : (k : ℕ) → k ≢ i → station_at s' k ≡ station_at s k)
    (rows : (a b : ℕ) → a ≢ i → length (link_at s' a b) ≤ length (link_at s a b)) where
  kept : local_bounds c s' i ≡ true → Bounds c s'
  unfolding local_bounds
  kept h =
      let a = both (phase_bounded s' i) _ h in
      let b = both (every 8 (count_bounded c s' i)) _ a.1 in
      record {
        phases = λ k l. by_dec (ℕ_discrete k i) (λ p. rw p a.0) (λ p. rw (others k p) (v.phases k l));
        counts = λ k m l n. by_dec (ℕ_discrete k i) (λ p. rw p (every_at 8 (count_bounded c s' i) m b.0 n)) (λ p. rw (others k p) (v.counts k m l n));
        links = λ k m l n. by_dec (ℕ_discrete k i) (λ p. rw p (every_at 8 (link_bounded c s' i) m b.1 n))
            (λ p. let a : length (link_at s k m) ≤ places c k m = leb-true _ _ (v.links k m l n) in
            le-leb (length (link_at s' k m)) (places c k m) (omega (arith, rows k m p)));
      }

  own : Bounds c s' → local_bounds c s' i ≡ true
  unfolding local_bounds
  own b =
      join (phase_bounded s' i) _ (b.phases i il)
      (join (every 8 (count_bounded c s' i)) _ (every_of 8 (count_bounded c s' i) (λ k m. b.counts i k il m)) (every_of 8 (link_bounded c s' i) (λ j m. b.links i j il m)))

  -- a bound is met exactly when the station or one of its links out is beyond it
  pub local : in_bounds c s' ≡ local_bounds c s' i
  local = bool_iff (in_bounds c s') (local_bounds c s' i) (λ h. own (bounds c s' h)) (λ h. in_bounds_lem c s' (kept h))

-- ---- entries
-- no count is above the greater of two that are at most t
merged-within : (v w : List ℕ) (t k : ℕ) → get_or v k 0 ≤ t → get_or w k 0 ≤ t → get_or (merged v w) k 0 ≤ t
merged-within [] w t k h g = omega arith
merged-within (a ∷ v) [] t k h g = h
merged-within (a ∷ v) (b ∷ w) t zero h g = omega arith
merged-within (a ∷ v) (b ∷ w) t (suc k) h g = merged-within v w t k h g

module _ (c : Config) (s : State vector) (v : Bounds c s) (i : ℕ) (il : i < 8) where
  abbrev time : List ℕ
  time = (station_at s i).time

  old_count : (k : ℕ) → k < 8 → get_or time k 0 ≤ c.t
  old_count k l = leb-true _ _ (v.counts i k il l)

  ticked-count : (k : ℕ) → k < 8 → k ≢ i → get_or (tick i time) k 0 ≤ c.t
  ticked-count k l n = rw (put_other 0 time i k (suc (get_or time i 0)) n) (old_count k l)

  -- a state in which station i has other counts u, in the same phase: the own count +1, each other count at most t
  module _ (s' : State vector) (u : List ℕ) (same : (station_at s' i).phase ≡ (station_at s i).phase) (now : (station_at s' i).time ≡ u)
      (own : get_or u i 0 ≡ suc (get_or time i 0)) (rest : (k : ℕ) → k < 8 → k ≢ i → get_or u k 0 ≤ c.t)
      (others : (k : ℕ) → k ≢ i → station_at s' k ≡ station_at s k) (rows : (a b : ℕ) → a ≢ i → length (link_at s' a b) ≤ length (link_at s a b)) where
    counts : every 8 (count_bounded c s' i) ≡ leb (suc (get_or time i 0)) c.t
    counts =
        bool_iff _ _ (λ h. rw (now, own) at (every_at 8 (count_bounded c s' i) i h il))
        (λ h. every_of 8 (count_bounded c s' i) (λ k l. rw now (by_dec (ℕ_discrete k i) (λ p. rw (p, own) h) (λ p. le-leb (get_or u k 0) c.t (rest k l p)))))

    entry-bounds : in_bounds c s' ≡ (leb (suc (get_or time i 0)) c.t && every 8 (link_bounded c s' i))
    unfolding local_bounds
    entry-bounds = let a : phase_bounded s' i ≡ true = rw same (v.phases i il) in local c s s' i il v others rows ∙ rw (a, counts)

  -- ---- enter
  pub enter-bounds : (g : ℕ) → in_bounds c (do_enter i g s).after ≡ leb (suc (get_or (station_at s i).time i 0)) c.t
  enter-bounds g =
      let x : Station vector = entered i (station_at s i) in
      let s' : State vector = set_station s i x in
      let links : every 8 (link_bounded c s' i) ≡ true = every_of 8 (link_bounded c s' i) (λ j l. rw (link_set-station s i x i j) (v.links i j il l)) in
      entry-bounds s' (tick i time) (rw (station-set s i x)) (rw (station-set s i x)) (put_same 0 time i (suc (get_or time i 0))) ticked-count
      (λ k n. station-set-other s i x k n) (λ a b n. rw (link_set-station s i x a b) (omega arith)) ∙ rw links (and-true _)

  -- ---- a message taken, whose counts are at most t
  pub receive-bounds : (j : ℕ) (w : List ℕ) (g : ℕ) (q : List (Item vector)) → j < 8 → link_at s j i ≡ message w g ∷ q → ((k : ℕ) → k < 8 → get_or w k 0 ≤ c.t)
      → j ≢ i → in_bounds c (do_receive i j w g q s).after ≡ leb (suc (get_or (station_at s i).time i 0)) c.t
  receive-bounds j w g q jl held small apart =
      let x : Station vector = receiving i j w (station_at s i) in
      let t : State vector = set_station s i x in
      let s' : State vector = set_link t j i q in
      let links : every 8 (link_bounded c s' i) ≡ true
      = every_of 8 (link_bounded c s' i) (λ b l. rw (link_set-row t j i q i b (λ p. apart (sym p)), link_set-station s i x i b) (v.links i b il l)) in
      entry-bounds s' (raised i time w) (rw (station-set_link t j i q i, station-set s i x)) (rw (station-set_link t j i q i, station-set s i x))
      (put_same 0 (merged time w) i (suc (get_or time i 0)))
      (λ k l n. rw (put_other 0 (merged time w) i k (suc (get_or time i 0)) n) (merged-within time w c.t k (old_count k l) (small k l)))
      (λ k n. station-set_link t j i q k ∙ station-set-other s i x k n)
      (λ a b n. rw (link_set-station s i x a b) at (taken_shorter t j i (message w g) q (link_set-station s i x j i ∙ held) a b)) ∙ rw links (and-true _)

  -- ---- send
  pub send-bounds : (j g : ℕ) → j < 8
      → in_bounds c (do_send i j g s).after ≡ (leb (suc (get_or (station_at s i).time i 0)) c.t && leb (suc (length (link_at s i j))) (places c i j))
  send-bounds j g jl =
      let x : Station vector = sending i j (station_at s i) in
      let t : State vector = set_station s i x in
      let q : List (Item vector) = link_at t i j ++ (message (tick i time) g ∷ []) in
      let s' : State vector = set_link t i j q in
      let grown : length (link_at s' i j) ≡ suc (length (link_at s i j)) = rw (link_set_lem t i j q, length-append, link_set-station s i x i j) (omega arith) in
      let links : every 8 (link_bounded c s' i) ≡ leb (suc (length (link_at s i j))) (places c i j)
      = bool_iff _ _ (λ h. rw grown at (every_at 8 (link_bounded c s' i) j h jl))
      (λ h. every_of 8 (link_bounded c s' i) (λ b l. by_dec (ℕ_discrete b j) (λ p. rw (p, grown) h)
      (λ p. rw (link_set_col t i j q b p, link_set-station s i x i b) (v.links i b il l)))) in
      entry-bounds s' (tick i time) (rw (station-set_link t i j q i, station-set s i x)) (rw (station-set_link t i j q i, station-set s i x))
      (put_same 0 time i (suc (get_or time i 0))) ticked-count (λ k n. station-set_link t i j q k ∙ station-set-other s i x k n)
      (λ a b n. rw (link_set-row t i j q a b n, link_set-station s i x a b) (omega arith)) ∙ rw links

-- ---- control items, from a state in bounds
-- every link out of i has room for k items more
unfoldable pub room_for : Config → State vector → ℕ → ℕ → Bool
room_for c s i k = every 8 (λ (b : ℕ). not (neighbours c i b) || leb (length (link_at s i b) + k) (places c i b))

-- ---- items put on every link out
module _ {K : Clock} (c : Config) (i : ℕ) where
  pub station-put_items : (s : State K) (q : List (Item K)) (k : ℕ) → station_at (put_items c s i q) k ≡ station_at s k
  station-put_items s [] k = refl
  station-put_items s (x ∷ q) k = station-put_items (put_on_all c s i x) q k ∙ station-put_all c s i x k

  pub link-put_items : (s : State K) (q : List (Item K)) (b : ℕ) → b < 8 → neighbours c i b ≡ true → link_at (put_items c s i q) i b ≡ link_at s i b ++ q
  link-put_items s [] b l h = sym (append-nil (link_at s i b))
  link-put_items s (x ∷ q) b l h = link-put_items (put_on_all c s i x) q b l h ∙ ap (λ (p : List (Item K)). p ++ q) (link-put_all c s i x b l h) ∙ append_assoc (link_at s i b) (x ∷ []) q

  pub link-put_items_far : (s : State K) (q : List (Item K)) (b : ℕ) → neighbours c i b ≡ false → link_at (put_items c s i q) i b ≡ link_at s i b
  link-put_items_far s [] b h = refl
  link-put_items_far s (x ∷ q) b h = link-put_items_far (put_on_all c s i x) q b h ∙ link-put_all_far c s i x b h

  pub link-put_items-row : (s : State K) (q : List (Item K)) (a b : ℕ) → a ≢ i → link_at (put_items c s i q) a b ≡ link_at s a b
  link-put_items-row s [] a b n = refl
  link-put_items-row s (x ∷ q) a b n = link-put_items-row (put_on_all c s i x) q a b n ∙ link-put_all_row c s i x a b n

-- ---- the rules leave every count at most t
abbrev Within : ℕ → Station vector → Type 0
Within t x = (k : ℕ) → k < 8 → get_or x.time k 0 ≤ t

applied-within : (t : ℕ) (x : Station vector) (r : Rule) → Within t x → Within t (applied x r)
applied-within t x rule_a h = λ k l. rw zeros_at (omega arith)
applied-within t x rule_b h = h
applied-within t x rule_c h = h
applied-within t x no_rule h = h

module _ (c : Config) (i : ℕ) where
  once-within : (u : Turning vector) → Within c.t u.station → Within c.t (turned_once c i u).station
  unfolding turned_once
  once-within u h = applied-within c.t u.station (rule_of c i u.station) h

  all_within : (u : Turning vector) → Within c.t u.station → Within c.t (turned_all c i u).station
  unfolding turned_all
  all_within u h = once-within _ (once-within _ (once-within u h))

  pub turned_within : (x : Station vector) → Within c.t x → Within c.t (turned c i x).station
  turned_within x h = all_within _ h

  pub started-within : (x : Station vector) → Within c.t x → Within c.t (started c i x).station
  started-within x h = all_within _ h

-- ---- the state after: another record of station i, and items put on its links out; s₁ is the state without the item taken
module _ (c : Config) (s s₁ : State vector) (v : Bounds c s) (i : ℕ) (il : i < 8)
    (stations : (k : ℕ) → station_at s₁ k ≡ station_at s k)
    (out : (b : ℕ) → link_at s₁ i b ≡ link_at s i b)
    (rows : (a b : ℕ) → a ≢ i → length (link_at s₁ a b) ≤ length (link_at s a b))
    (x : Station vector) (within : Within c.t x) (q : List (Item vector)) where
  abbrev after : State vector
  after = put_items c (set_station s₁ i x) i q

  others : (k : ℕ) → k ≢ i → station_at after k ≡ station_at s k
  others k n = station-put_items c i (set_station s₁ i x) q k ∙ station-set-other s₁ i x k n ∙ stations k

  here : station_at after i ≡ x
  here = station-put_items c i (set_station s₁ i x) q i ∙ station-set s₁ i x

  none_longer : (a b : ℕ) → a ≢ i → length (link_at after a b) ≤ length (link_at s a b)
  none_longer a b n = rw (link-put_items-row c i (set_station s₁ i x) q a b n, link_set-station s₁ i x a b) (rows a b n)

  grown : (b : ℕ) → b < 8 → neighbours c i b ≡ true → length (link_at after i b) ≡ length (link_at s i b) + length q
  grown b l h = rw (link-put_items c i (set_station s₁ i x) q b l h, link_set-station s₁ i x i b, out b, length-append)

  same : (b : ℕ) → neighbours c i b ≡ false → link_at after i b ≡ link_at s i b
  same b h = link-put_items_far c i (set_station s₁ i x) q b h ∙ link_set-station s₁ i x i b ∙ out b

  counts_fit_lem : every 8 (count_bounded c after i) ≡ true
  counts_fit_lem = every_of 8 (count_bounded c after i) (λ k l. rw here (le-leb _ _ (within k l)))

  links : every 8 (link_bounded c after i) ≡ room_for c s i (length q)
  unfolding room_for
  links =
      bool_iff _ _
      (λ h. every_of 8 _ (λ b l. by_test (neighbours c i b)
      (λ e. let z = every_at 8 (link_bounded c after i) b h l in rw (e, ← grown b l e) z) (λ e. rw e)))
      (λ h. every_of 8 (link_bounded c after i) (λ b l. by_test (neighbours c i b)
      (λ e. rw (grown b l e) (rw e at (every_at 8 (λ (b : ℕ). not (neighbours c i b) || leb (length (link_at s i b) + length q) (places c i b)) b h l)))
      (λ e. rw (same b e) (v.links i b il l))))

  pub control-bounds : in_bounds c (put_items c (set_station s₁ i x) i q) ≡ (leb x.phase 999999 && room_for c s i (length q))
  unfolding local_bounds
  control-bounds = local c s after i il v others none_longer ∙ rw (counts_fit_lem, links, here)
