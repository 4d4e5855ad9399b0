-- Rest: its conditions one by one; at rest every receipt is refused; and where normal stations of one phase have no message under way, their links are
-- empty. Assumes nothing.
use Prim.Native.Nat.{ℕ, suc, ◌≤◌, ◌<◌}
use mathlib.Core.Path.{◌≡◌, refl, ap}
use mathlib.Core.List.{List, [], ◌∷◌}
use mathlib.Core.Bool.{true, false}
use native.Mathlib.Omega.{arith}
use lib.ListN.{length}
use borrow.Author.Tests.{eqb-true, leb-true, eq-eqb}
use Rattle.codec.specs.Every.{every}
use Rattle.codec.proofs.EveryLaws.{both, join, every_at, every_of}
use Rattle.codec.proofs.SomeLaws.{some_fails}
use Rattle.reset.specs.Config.{Config, is_station, neighbours, places}
use Rattle.reset.specs.Receipts.{target, reqs_taken, dones_taken}
use Rattle.reset.proofs.ConfigLaws.{Rules, neighbour-small}
use Rattle.reset.specs.Clock.{Clock}
use Rattle.reset.specs.State.{normal, Item, message, reset_req, reset_done, State, station_at, link_at, req_seen}
use Rattle.reset.specs.Steps.{some_neighbour, rule_c, no_rule, recv, refused, guard, in_bounds, is_normal, step}
use Rattle.reset.specs.Network.{link_empty, links_empty, stations_quiescent, quiescent}
use Rattle.reset.proofs.Changes.{tags, waiting}
use Rattle.reset.proofs.Flow.{Flow, flow-reqs, flow-dones}
use Rattle.reset.proofs.Coherent.{Coherent}
use Rattle.reset.proofs.Formed.{bounds}
use Rattle.reset.proofs.StepLaws.{is_normal_lem}
use Rattle.reset.proofs.Views.{none_long}
use Rattle.reset.proofs.Cases.{by_test, clash}

module _ {K : Clock} (c : Config) (s : State K) where
  -- ---- the conditions
  pub quiescent_parts : quiescent c s ≡ true → (stations_quiescent c s ≡ true) × (links_empty s ≡ true)
  unfolding quiescent
  quiescent_parts h = both (stations_quiescent c s) _ h

  pub quiescent_of : stations_quiescent c s ≡ true → links_empty s ≡ true → quiescent c s ≡ true
  unfolding quiescent
  quiescent_of h e = join (stations_quiescent c s) _ h e

  -- every station is normal, and in the phase of station 0
  pub all_normal : stations_quiescent c s ≡ true → (i : ℕ) → i < c.n → (station_at s i).mode ≡ normal
  unfolding stations_quiescent
  all_normal h i l = is_normal_lem _ (every_at c.n _ i (both (every c.n (λ (i : ℕ). is_normal (station_at s i).mode)) _ h).0 l)

  pub one_phase : stations_quiescent c s ≡ true → (i : ℕ) → i < c.n → (station_at s i).phase ≡ (station_at s 0).phase
  unfolding stations_quiescent
  one_phase h i l = eqb-true _ _ (every_at c.n _ i (both (every c.n (λ (i : ℕ). is_normal (station_at s i).mode)) _ h).1 l)

  -- each of the eight by eight links is empty
  pub each_empty : links_empty s ≡ true → (i j : ℕ) → i < 8 → j < 8 → link_at s i j ≡ []
  unfolding links_empty
  each_empty h i j il jl = none_long _ (eqb-true _ _ (every_at 8 (link_empty s i) j (every_at 8 (λ (i : ℕ). every 8 (link_empty s i)) i h il) jl))

  pub all_empty : ((i j : ℕ) → i < 8 → j < 8 → link_at s i j ≡ []) → links_empty s ≡ true
  unfolding links_empty
  all_empty f = every_of 8 _ (λ i il. every_of 8 (link_empty s i) (λ j jl. eq-eqb _ 0 (ap length (f i j il jl))))

  -- ---- at rest nothing can be received: the link from every neighbour is empty
  pub no_receipt : Rules c → quiescent c s ≡ true → (i j : ℕ) → is_station c i ≡ true → neighbours c i j ≡ true → (step c s (recv i j)).answer ≡ refused 7
  unfolding guard
  no_receipt u h i j si ij =
      rw (si, ij, each_empty (quiescent_parts h).1 j i (neighbour-small c u i j ij) (neighbour-small c u j i (u.both_ways i j ij)))

  -- ---- links of a network that steps have reached
  -- where as much was taken as was put, a link holds messages alone
  flow_still : (p r e : ℕ) (q : List (Item K)) (R E : ℕ) → Flow p r e q R E → r ≡ R → e ≡ E → tags r q ≡ [] → q ≡ []
  flow_still p r e [] R E h a b t = refl
  flow_still p r e (message w g ∷ q) R E h a b t = clash (cc)
  flow_still p r e (reset_req ∷ q) R E h a b t = let k = flow-reqs p (suc r) e q R E h.1 in absurd (omega arith)
  flow_still p r e (reset_done ∷ q) R E h a b t = let k = flow-dones p r (suc e) q R E h.1 in absurd (omega arith)

  -- where there is no link, there is no place for an item
  pub unlinked-empty : in_bounds c s ≡ true → (i j : ℕ) → i < 8 → j < 8 → neighbours c i j ≡ false → link_at s i j ≡ []
  unfolding places
  unlinked-empty b i j il jl n =
      let l : length (link_at s i j) ≤ 0 = rw n at (leb-true (length (link_at s i j)) (places c i j) ((bounds c s b).links i j il jl)) in
      none_long _ (omega arith)

  module _ (u : Rules c) (v : Coherent c s) where
    -- a normal station has no req seen, for rule c would apply
    pub no_req : (i j : ℕ) → i < c.n → (station_at s i).mode ≡ normal → neighbours c i j ≡ true → req_seen (station_at s i) j ≡ false
    unfolding some_neighbour
    no_req i j l m ij =
        by_test (some_neighbour c i (req_seen (station_at s i))) (λ e. let z : rule_c ≡ no_rule = rw (m, e) at (v.no_rule_lem i l) in clash (cc))
        (λ e. rw ij at (some_fails 8 _ e j (neighbour-small c u i j ij)))

    pub none_waiting : stations_quiescent c s ≡ true → (i j : ℕ) → neighbours c i j ≡ true → waiting s i j ≡ [] → link_at s i j ≡ []
    none_waiting w i j ij t =
        let ji = u.both_ways i j ij in
        let il = u.inside j i ji in
        let jl = u.inside i j ij in
        let a : reqs_taken (station_at s j) i ≡ target (station_at s i) = rw (all_normal w i il, no_req j i jl (all_normal w j jl) ji, one_phase w i il, one_phase w j jl) in
        let b : dones_taken (station_at s j) i ≡ suc (station_at s i).phase = rw (v.invariant.seen j i ji (all_normal w j jl), all_normal w j jl, one_phase w i il, one_phase w j jl) (omega arith) in
        flow_still _ _ _ (link_at s i j) _ _ (v.invariant.flow i j ij) a b t
