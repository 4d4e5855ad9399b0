-- What every state that steps reach from the initial network satisfies: later theorems start from this record. Assumes nothing.
use Prim.Native.Nat.{ℕ, ◌<◌}
use mathlib.Core.Path.{◌≡◌, ◌∙◌}
use mathlib.Core.Logic.{◌≢◌}
use mathlib.Core.List.{List, [], ◌∷◌}
use native.Mathlib.Omega.{arith}
use native.Mathlib.Decide.{ℕ_discrete}
use Rattle.reset.specs.Config.{Config, neighbours}
use Rattle.reset.proofs.ConfigLaws.{Rules}
use Rattle.reset.specs.Clock.{Clock}
use Rattle.reset.specs.State.{State, station_at, req_seen}
use Rattle.reset.specs.Steps.{some_neighbour, no_rule, rule_of, begin_reset, turn, Step, step}
use Rattle.reset.specs.Network.{initial_station, initial, run}
use Rattle.reset.proofs.Views.{none_at, station-set, station-set-other, station-set_link, station-put_all}
use Rattle.reset.proofs.TurnLaws.{some_none, no_rule_left, station_turn_other}
use Rattle.reset.proofs.StepLaws.{of_step}
use Rattle.reset.proofs.Invariant.{Invariant}
use Rattle.reset.proofs.Summary.{step_keeps}
use Rattle.reset.proofs.Initial.{initial_station_lem, initial-invariant}
use Rattle.reset.proofs.Cases.{by_dec}

-- no reset rule applies at any station
abbrev pub Rests : {K : Clock} → Config → State K → Type 0
Rests c s = (k : ℕ) → k < c.n → rule_of c k (station_at s k) ≡ no_rule

-- The invariant, and between two steps no reset rule applies.
pub record Coherent {K : Clock} (c : Config) (s : State K) : Type 0 where
  pub invariant : Invariant c s
  pub no_rule_lem : Rests c s

-- ---- no rule applies after a step
module _ {K : Clock} (c : Config) (s : State K) (r : Rests c s) where
  -- a record that the rules read as before
  rests_same : (i : ℕ) (s' : State K) → rule_of c i (station_at s' i) ≡ rule_of c i (station_at s i) → ((k : ℕ) → k ≢ i → station_at s' k ≡ station_at s k) → Rests c s'
  rests_same i s' h os k l = by_dec (ℕ_discrete k i) (λ p. rw p (h ∙ (rw p at (r k l)))) (λ p. rw (os k p) (r k l))

  -- the reset rules were run
  rests_turn : (i : ℕ) (s' : State K) → ((k : ℕ) → k ≢ i → station_at s' k ≡ station_at s k) → Rests c (turn c i s')
  rests_turn i s' os k l = by_dec (ℕ_discrete k i) (λ p. rw p (no_rule_left c i s')) (λ p. rw (station_turn_other c i s' k p, os k p) (r k l))

  begin_others : (i k : ℕ) → k ≢ i → station_at (begin_reset c i s) k ≡ station_at s k
  unfolding begin_reset
  begin_others i k n = station-put_all c _ i _ k ∙ station-set-other s i _ k n

  rests_step : (p : Step) → Rests c (step c s p).after
  rests_step =
      of_step c s (λ p o. Rests c o.after) (λ p k. r)
      (record {
        own = λ i g si l b. rests_same i _ (rw station-set) (λ k n. station-set-other s i _ k n);
        sent = λ i j g si ij m l b. rests_same i _ (rw (station-set_link, station-set)) (λ k n. station-set_link _ i j _ k ∙ station-set-other s i _ k n);
        received = λ i j w g q si ij e b. rests_same i _ (rw (station-set_link, station-set)) (λ k n. station-set_link _ j i q k ∙ station-set-other s i _ k n);
        req = λ i j q si ij e b. rests_turn i _ (λ k n. station-set_link _ j i q k ∙ station-set-other s i _ k n);
        done = λ i j q si ij e b. rests_turn i _ (λ k n. station-set_link _ j i q k ∙ station-set-other s i _ k n);
        started = λ i si m l b. rests_turn i (begin_reset c i s) (begin_others i);
      })

rests-initial : (K : Clock) (c : Config) → Rules c → Rests c (initial K c)
unfolding some_neighbour
rests-initial K c u k l = rw (initial_station_lem K c k (omega (arith, u.small)), some_none 8 (neighbours c k) (req_seen (initial_station K c k)) none_at)

-- ---- the laws
module _ {K : Clock} (c : Config) (u : Rules c) where
  pub initial-coherent : Coherent c (initial K c)
  initial-coherent = record { invariant = initial-invariant K c u; no_rule_lem = rests-initial K c u }

  pub step_coherent : (s : State K) → Coherent c s → (p : Step) → Coherent c (step c s p).after
  step_coherent s h p = record { invariant = step_keeps c u s h.invariant p; no_rule_lem = rests_step c s h.no_rule_lem p }

  pub run-coherent : (s : State K) → Coherent c s → (ps : List Step) → Coherent c (run c s ps)
  run-coherent s h [] = h
  run-coherent s h (p ∷ ps) = run-coherent (step c s p).after (step_coherent s h p) ps
