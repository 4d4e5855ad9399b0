-- A network that steps have reached and whose links are empty: every station is normal in the phase of the greatest target, and no receipt is left. Assumes
-- nothing.
use Prim.Native.Nat.{ℕ, zero, suc, ◌+◌, ◌≤◌, ◌<◌}
use mathlib.Core.Path.{◌≡◌, refl, ap, ◌∙◌}
use mathlib.Core.List.{List, []}
use mathlib.Core.Bool.{Bool, true, false, not, ◌||◌}
use native.Mathlib.Omega.{arith}
use Rattle.codec.proofs.SumLaws.{sum-zero}
use Rattle.reset.specs.Reach.{linked, Path, here, further, Reached}
use Rattle.reset.specs.Config.{Config, neighbours}
use Rattle.reset.specs.Clock.{Clock}
use Rattle.reset.specs.State.{Mode, normal, mute, stand_by, State, station_at, link_at, req_seen, done_seen}
use Rattle.reset.specs.Steps.{every_neighbour, rule_a, rule_b, no_rule}
use Rattle.reset.specs.Network.{links_empty}
use Rattle.reset.specs.Receipts.{muted, bit, target, greatest_target, messages, under_way, reqs_taken, dones_taken, controls_left, receipts_to_rest}
use Rattle.reset.proofs.ReachLaws.{every_finds}
use Rattle.reset.proofs.ConfigLaws.{Rules, neighbour-small}
use Rattle.reset.proofs.Coherent.{Coherent}
use Rattle.reset.proofs.RestLaws.{each_empty, no_req}
use Rattle.reset.proofs.Taken.{target_at-most, greatest_target-below}
use Rattle.reset.proofs.Cases.{by_test, clash}

bit-small : (b : Bool) → bit b ≤ 1
bit-small true = omega arith
bit-small false = omega arith

-- where not every neighbour has p, there is one that has it not
neighbour_lacks : (c : Config) (i : ℕ) (p : ℕ → Bool) → every_neighbour c i p ≡ false → (j : ℕ) × (neighbours c i j ≡ true) × (p j ≡ false)
unfolding every_neighbour
neighbour_lacks c i p h =
    let t = every_finds 8 (λ (j : ℕ). not (neighbours c i j) || p j) h in
    by_test (neighbours c i t.0) (λ n. (t.0, n, rw n at t.2)) (λ n. clash (rw n at t.2))

-- what is the same at both ends of every link is the same along a path
along : (m : List (List ℕ)) (f : ℕ → ℕ) → ((i j : ℕ) → linked m i j ≡ true → f j ≡ f i) → (i j : ℕ) → Path m i j → f j ≡ f i
along m f h i j here = refl
along m f h i j (further {j = k} p e) = h k j e ∙ along m f h i k p

module _ {K : Clock} (c : Config) (u : Rules c) (s : State K) (v : Coherent c s) (e : links_empty s ≡ true) where
  empty : (i j : ℕ) → neighbours c i j ≡ true → link_at s i j ≡ []
  empty i j h = each_empty c s e i j (neighbour-small c u j i (u.both_ways i j h)) (neighbour-small c u i j h)

  -- station j has taken all that i has put
  ends : (i j : ℕ) → neighbours c i j ≡ true → (reqs_taken (station_at s j) i ≡ target (station_at s i)) × (dones_taken (station_at s j) i ≡ suc (station_at s i).phase)
  ends i j h = rw (empty i j h) at (v.invariant.flow i j h)

  -- ---- no rule applies: a mute station waits for a req, one in stand-by for a done
  awaits_req : (i : ℕ) → i < c.n → (station_at s i).mode ≡ mute → (j : ℕ) × (neighbours c i j ≡ true) × (req_seen (station_at s i) j ≡ false)
  awaits_req i l m =
      by_test (every_neighbour c i (req_seen (station_at s i))) (λ q. let z : rule_a ≡ no_rule = rw (m, q) at (v.no_rule_lem i l) in clash (cc)) (λ q. neighbour_lacks c i _ q)

  awaits_done : (i : ℕ) → i < c.n → (station_at s i).mode ≡ stand_by → (j : ℕ) × (neighbours c i j ≡ true) × (done_seen (station_at s i) j ≡ false)
  awaits_done i l m =
      by_test (every_neighbour c i (done_seen (station_at s i))) (λ q. let z : rule_b ≡ no_rule = rw (m, q) at (v.no_rule_lem i l) in clash (cc)) (λ q. neighbour_lacks c i _ q)

  -- the req that a mute station waits for is that of one in stand-by, in its phase
  beside_mute : (i j : ℕ) → neighbours c i j ≡ true → (station_at s i).mode ≡ mute → req_seen (station_at s i) j ≡ false
      → ((station_at s j).mode ≡ stand_by) × ((station_at s j).phase ≡ (station_at s i).phase)
  beside_mute i j ij m q = go (station_at s j).mode refl
    where
      ji : neighbours c j i ≡ true
      ji = u.both_ways i j ij

      a : (station_at s i).phase + 0 ≡ target (station_at s j)
      a = rw q at (ends j i ji).0

      b : reqs_taken (station_at s j) i ≡ (station_at s i).phase + 1
      b = rw m at (ends i j ij).0

      go : (k : Mode) → (station_at s j).mode ≡ k → ((station_at s j).mode ≡ stand_by) × ((station_at s j).phase ≡ (station_at s i).phase)
      go normal d = let f = ap bit (no_req c s u v j i (u.inside i j ij) d ji) in absurd (omega (arith, a, b, f, ap muted d))
      go mute d = absurd (omega (arith, a, b, bit-small (req_seen (station_at s j) i), ap muted d))
      go stand_by d = (d, omega (arith, a, ap muted d))

  -- the done that one in stand-by waits for is that of a mute one, in the phase before
  beside_stand_by : (i j : ℕ) → neighbours c i j ≡ true → (station_at s i).mode ≡ stand_by → done_seen (station_at s i) j ≡ false
      → ((station_at s j).mode ≡ mute) × (suc (station_at s j).phase ≡ (station_at s i).phase)
  beside_stand_by i j ij m q = go (station_at s j).mode refl
    where
      a : reqs_taken (station_at s i) j ≡ target (station_at s j)
      a = (ends j i (u.both_ways i j ij)).0

      b : (station_at s i).phase + 0 + 0 ≡ suc (station_at s j).phase
      b = rw (q, m) at (ends j i (u.both_ways i j ij)).1

      go : (k : Mode) → (station_at s j).mode ≡ k → ((station_at s j).mode ≡ mute) × (suc (station_at s j).phase ≡ (station_at s i).phase)
      go normal d = absurd (omega (arith, a, b, ap muted d))
      go mute d = (d, omega (arith, b))
      go stand_by d = absurd (omega (arith, a, b, ap muted d))

  -- so below a mute station, which waits for one in stand-by, stands a mute one of the phase before, and so on
  no_mute : (b i : ℕ) → (station_at s i).phase < b → i < c.n → (station_at s i).mode ≡ mute → ⊥
  no_mute zero i l il m = omega arith
  no_mute (suc b) i l il m =
      let t = awaits_req i il m in
      let j : ℕ = t.0 in
      let d = beside_mute i j t.1 m t.2 in
      let w = awaits_done j (u.inside i j t.1) d.0 in
      let k : ℕ = w.0 in
      let f = beside_stand_by j k w.1 d.0 w.2 in
      no_mute b k (omega (arith, d.1, f.1, l)) (u.inside j k w.1) f.0

  -- ---- every station is normal
  pub emptied-normal : (i : ℕ) → i < c.n → (station_at s i).mode ≡ normal
  emptied-normal i il = go (station_at s i).mode refl
    where
      go : (m : Mode) → (station_at s i).mode ≡ m → (station_at s i).mode ≡ normal
      go normal m = m
      go mute m = absurd (no_mute (suc (station_at s i).phase) i (omega arith) il m)
      go stand_by m =
          let w = awaits_done i il m in
          let k : ℕ = w.0 in
          absurd (no_mute (suc (station_at s k).phase) k (omega arith) (u.inside i k w.1) (beside_stand_by i k w.1 m w.2).0)

  -- neighbours are in one phase
  one_phase : (i j : ℕ) → neighbours c i j ≡ true → (station_at s j).phase ≡ (station_at s i).phase
  one_phase i j ij =
      let ji = u.both_ways i j ij in
      let il = u.inside j i ji in
      let jl = u.inside i j ij in
      let a = ap bit (no_req c s u v j i jl (emptied-normal j jl) ji) in
      let d = ap muted (emptied-normal i il) in
      omega (arith, (ends i j ij).0, a, d)

  -- ---- and all are, that of the greatest target, as every station can be reached
  module _ (w : Reached c.n c.limits) where
    first_phase : (i : ℕ) → i < c.n → (station_at s i).phase ≡ (station_at s 0).phase
    unfolding neighbours
    first_phase i il = along c.limits (λ (k : ℕ). (station_at s k).phase) one_phase 0 i (w i il)

    pub emptied-phase : (i : ℕ) → i < c.n → (station_at s i).phase ≡ greatest_target c s
    emptied-phase i il =
        let a = target_at-most c s i il in
        let d = ap muted (emptied-normal i il) in
        let b = greatest_target-below c s (station_at s i).phase (λ k kl. omega (arith, first_phase k kl, first_phase i il, ap muted (emptied-normal k kl))) in
        omega (arith, a, d, b)

    none_left : (j i : ℕ) → controls_left c s (greatest_target c s) j i ≡ 0
    none_left j i =
        by_test (neighbours c i j)
        (λ h. let il = u.inside j i (u.both_ways i j h) in
        rw h (omega (arith, (ends i j h).0, (ends i j h).1, emptied-phase i il, ap muted (emptied-normal i il))))
        (λ h. rw h)

    pub none_to_rest : receipts_to_rest c s ≡ 0
    unfolding receipts_to_rest under_way
    none_to_rest =
        let a = sum-zero 8 _ (λ i il. sum-zero 8 (λ (j : ℕ). messages (link_at s i j)) (λ j jl. rw (each_empty c s e i j il jl))) in
        let b = sum-zero 8 _ (λ j jl. sum-zero 8 (controls_left c s (greatest_target c s) j) (λ i il. none_left j i)) in
        omega (arith, a, b)
