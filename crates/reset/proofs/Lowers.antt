-- An accepted receipt lowers the number of receipts to rest by one, and leaves the greatest target. Assumes nothing.
use Prim.Native.Nat.{ℕ, suc, ◌+◌, ◌≤◌, ◌<◌}
use mathlib.Core.Path.{◌≡◌, refl, sym, ◌∙◌}
use mathlib.Core.List.{List, [], ◌∷◌}
use mathlib.Core.Bool.{true}
use native.Mathlib.Omega.{arith}
use native.Mathlib.Decide.{ℕ_discrete}
use Rattle.codec.proofs.SumLaws.{table_same, table_grows}
use Rattle.reset.specs.Config.{Config, neighbours}
use Rattle.reset.specs.Clock.{Clock}
use Rattle.reset.specs.State.{Item, reset_req, reset_done, State, station_at, link_at}
use Rattle.reset.specs.Steps.{Step, step}
use Rattle.reset.specs.Receipts.{greatest_target, messages, under_way, reqs_taken, dones_taken, controls_taken, controls_left, receipts_to_rest, Receipts, is_accepted}
use Rattle.reset.proofs.ConfigLaws.{Rules, station-below, neighbour-small}
use Rattle.reset.proofs.Views.{station-set, station-set_link}
use Rattle.reset.proofs.Changes.{Tagged}
use Rattle.reset.proofs.Flow.{flow-reqs, flow-dones}
use Rattle.reset.proofs.Invariant.{Invariant, TakesOff}
use Rattle.reset.proofs.Keeps.{takes_message, takes_req, takes_done, req_keeps, done_keeps}
use Rattle.reset.proofs.StepLaws.{of_step}
use Rattle.reset.proofs.Taken.{target_at-most, greatest-stays, Still, turn_still, takes_reqs, takes_dones, req-counts, done-counts}
use Rattle.reset.proofs.Cases.{by_test, by_dec, clash}

-- ---- what the number is made of
-- on a link whose receiver has taken as many control items as before
left_same : {K : Clock} (c : Config) (s s' : State K) (g j i : ℕ) → (neighbours c i j ≡ true → controls_taken (station_at s' j) i ≡ controls_taken (station_at s j) i)
    → controls_left c s' g j i ≡ controls_left c s g j i
left_same c s s' g j i h = by_test (neighbours c i j) (λ n. rw (n, h n)) (λ n. rw n)

-- a change by which nothing is taken
still_number : {K : Clock} (c : Config) → Rules c → (s s' : State K) → Still c s s' → receipts_to_rest c s' ≡ receipts_to_rest c s
unfolding receipts_to_rest under_way
still_number c u s s' k =
    let a = table_same 8 8 (λ (a b : ℕ). messages (link_at s' a b)) (λ (a b : ℕ). messages (link_at s a b)) k.as_many in
    let b = table_same 8 8 (controls_left c s' (greatest_target c s)) (controls_left c s (greatest_target c s))
    (λ j i. left_same c s s' (greatest_target c s) j i
    (λ n. let ji = u.both_ways i j n in omega (arith, k.untaken.reqs j i ji, k.untaken.dones j i ji))) in
    rw k.top (omega (arith, a, b))

-- ---- one less
pub record Lowers {K : Clock} (c : Config) (s s' : State K) : Type 0 where
  pub top : greatest_target c s' ≡ greatest_target c s
  pub one_less : receipts_to_rest c s ≡ suc (receipts_to_rest c s')

lowers_still : {K : Clock} (c : Config) → Rules c → (s s' s'' : State K) → Lowers c s s' → Still c s' s'' → Lowers c s s''
lowers_still c u s s' s'' k l = record { top = l.top ∙ k.top; one_less = omega (arith, k.one_less, still_number c u s' s'' l) }

-- station i takes x off its link from j
module _ {K : Clock} (c : Config) (u : Rules c) (i j : ℕ) (ij : neighbours c i j ≡ true) (s s' : State K) (x : Item K) (q : List (Item K)) (taken : List (Tagged K))
    (v : Invariant c s) (m : TakesOff c i j s s' x q taken) where
  il : i < c.n
  il = u.inside j i (u.both_ways i j ij)

  takes_top : greatest_target c s' ≡ greatest_target c s
  takes_top = greatest-stays c s s' i il m.others (rw (m.mode_same, m.phase_same) (omega arith)) (rw (m.mode_same, m.phase_same) (target_at-most c s i il))

  -- other links
  far_link : (a b : ℕ) → (a ≡ j → b ≡ i → ⊥) → link_at s' a b ≡ link_at s a b
  far_link a b n = by_dec (ℕ_discrete a j) (λ p. rw p (m.cols b (n p))) (λ p. m.rows a b p)

  far_left : (g a b : ℕ) → (a ≡ i → b ≡ j → ⊥) → controls_left c s g a b ≡ controls_left c s' g a b
  far_left g a b n = sym (left_same c s s' g a b (λ h. omega (arith, takes_reqs c i j s s' x q taken m a b n, takes_dones c i j s s' x q taken m a b n)))

  -- a message
  pub message_lowers : messages (x ∷ q) ≡ suc (messages q) → reqs_taken (station_at s' i) j ≡ reqs_taken (station_at s i) j → dones_taken (station_at s' i) j ≡ dones_taken (station_at s i) j
      → Lowers c s s'
  unfolding receipts_to_rest under_way
  message_lowers e r d =
      let a = table_grows 8 8 (λ (a b : ℕ). messages (link_at s' a b)) (λ (a b : ℕ). messages (link_at s a b)) j i (neighbour-small c u i j ij) (neighbour-small c u j i (u.both_ways i j ij))
      (rw (m.held, m.left) e) (λ a b n. rw (far_link a b n)) in
      let b = table_same 8 8 (controls_left c s (greatest_target c s)) (controls_left c s' (greatest_target c s))
      (λ a b. by_dec (ℕ_discrete a i)
      (λ p. by_dec (ℕ_discrete b j) (λ k. rw (p, k) (sym (left_same c s s' (greatest_target c s) i j (λ h. omega (arith, r, d))))) (λ k. far_left (greatest_target c s) a b (λ z w. k w)))
      (λ p. far_left (greatest_target c s) a b (λ z w. p z))) in
      record { top = takes_top; one_less = rw takes_top (omega (arith, a, b)) }

  -- a control item: twice the greatest target is not yet taken
  one_left : 1 ≤ reqs_taken (station_at s i) j + dones_taken (station_at s i) j
      → reqs_taken (station_at s' i) j + dones_taken (station_at s' i) j ≡ suc (reqs_taken (station_at s i) j + dones_taken (station_at s i) j)
      → controls_left c s (greatest_target c s) i j ≡ suc (controls_left c s' (greatest_target c s) i j)
  one_left a e =
      let ji = u.both_ways i j ij in
      let f = m.moved (rw m.held at (v.flow j i ji)) in
      let r = flow-reqs _ _ _ q _ _ f in
      let d = flow-dones _ _ _ q _ _ f in
      let t = target_at-most c s j (u.inside i j ij) in
      rw ji (omega (arith, a, e, r, d, t))

  pub control_lowers : messages (x ∷ q) ≡ messages q → 1 ≤ reqs_taken (station_at s i) j + dones_taken (station_at s i) j
      → reqs_taken (station_at s' i) j + dones_taken (station_at s' i) j ≡ suc (reqs_taken (station_at s i) j + dones_taken (station_at s i) j)
      → Lowers c s s'
  unfolding receipts_to_rest under_way
  control_lowers z f e =
      let a = table_same 8 8 (λ (a b : ℕ). messages (link_at s a b)) (λ (a b : ℕ). messages (link_at s' a b))
      (λ a b. by_dec (ℕ_discrete a j)
      (λ p. by_dec (ℕ_discrete b i) (λ k. rw (p, k, m.held, m.left) z) (λ k. rw (far_link a b (λ z w. k w))))
      (λ p. rw (far_link a b (λ z w. p z)))) in
      let b = table_grows 8 8 (controls_left c s' (greatest_target c s)) (controls_left c s (greatest_target c s)) i j (neighbour-small c u j i (u.both_ways i j ij)) (neighbour-small c u i j ij)
      (one_left f e) (far_left (greatest_target c s)) in
      record { top = takes_top; one_less = rw takes_top (omega (arith, a, b)) }

-- ---- a receipt
-- where each station's control items are counted from one on
abbrev pub FromOne : {K : Clock} → Config → State K → Type 0
FromOne c s = (a b : ℕ) → neighbours c a b ≡ true → 1 ≤ reqs_taken (station_at s a) b + dones_taken (station_at s a) b

module _ {K : Clock} (c : Config) (u : Rules c) (s : State K) (v : Invariant c s) (f : FromOne c s) where
  pub receipt_lowers : (p : Step) → Receipts (p ∷ []) → is_accepted (step c s p).answer ≡ true → Lowers c s (step c s p).after
  receipt_lowers =
      of_step c s (λ p o. Receipts (p ∷ []) → is_accepted o.answer ≡ true → Lowers c s o.after) (λ p k r h. clash (sym h))
      (record {
        own = λ i g si l b r h. absurd r;
        sent = λ i j g si ij m l b r h. absurd r;
        received = λ i j w g q si ij e b r h.
            message_lowers c u i j ij s _ _ q _ v (takes_message c u s v i j ij q w g e) refl (rw (station-set_link, station-set)) (rw (station-set_link, station-set));
        req = λ i j q si ij e b r h.
            lowers_still c u s _ _
            (control_lowers c u i j ij s _ reset_req q _ v (takes_req c u s v i j ij q e) refl (f i j ij) (rw (station-set_link, station-set) (req-counts c u s v i j ij q e)))
            (turn_still c u i (station-below c i si) _ (req_keeps c u s v i j ij q e).inv);
        done = λ i j q si ij e b r h.
            lowers_still c u s _ _
            (control_lowers c u i j ij s _ reset_done q _ v (takes_done c u s v i j ij q e) refl (f i j ij) (rw (station-set_link, station-set) (done-counts c u s v i j ij q e)))
            (turn_still c u i (station-below c i si) _ (done_keeps c u s v i j ij q e).inv);
        started = λ i si m l b r h. absurd r;
      })
