-- Demand 3 over areas, from demand 3 of the network: a run over areas is the image of a run over states. Assumes nothing.
use Prim.Native.Nat.{ℕ}
use mathlib.Core.Path.{◌≡◌, refl, ap}
use mathlib.Core.List.{List, [], ◌∷◌}
use mathlib.Core.Bool.{true}
use native.Mathlib.Omega.{arith}
use lib.Dec.{eqb}
use lib.ListN.{length}
use Rattle.header.specs.Header.{well_made_header}
use Rattle.reset.specs.Config.{Config, network_rules}
use Rattle.reset.specs.Clock.{vector}
use Rattle.reset.specs.State.{State}
use Rattle.reset.specs.Steps.{Step, step}
use Rattle.reset.specs.Network.{initial, Answered, log}
use Rattle.reset.specs.WellFormed.{well_formed, StepsFit}
use Rattle.reset.proofs.ClockRange.{vector-range}
use Rattle.reset.proofs.Formed.{initial-well_formed, step_well_formed}
use Rattle.rules.specs.Setup.{block_config}
use Rattle.rules.proofs.Laws.{accepted-well_made}
use Rattle.causality.specs.Sound.{taken, with_taken, takens}
use Rattle.causality.proofs.Demand3.{demand3}
use Rattle.area.specs.Layout.{image}
use Rattle.area.proofs.Exact.{formed-imaged as images, config_back, state_back, image-passes}
use Rattle.area_calls.specs.Calls.{setup_on, imaged, step_on}
use Rattle.area_calls.specs.Sound.{log_on, takens_on, Demand3}
use Rattle.reset.proofs.Cases.{by_test}

-- a step on the image of a well-formed state is the image of the network's step
pub step_on-image : (c : Config) (s : State vector) → well_formed c s ≡ true → (p : Step) → step_on p (image c s) ≡ imaged c (step c s p)
unfolding step_on
step_on-image c s w p =
    let v = images c s w in
    rw (image-passes c s w, config_back c s v, state_back c s v)

-- so is a list of steps: its answers, and the messages taken
module _ (c : Config) where
  pub log_on-image : (s : State vector) → well_formed c s ≡ true → (ps : List Step) → StepsFit ps → log_on (image c s) ps ≡ log c s ps
  log_on-image s w [] f = refl
  log_on-image s w (p ∷ ps) f =
      rw (step_on-image c s w p) (ap (λ (l : List Answered). record { step = p; answer = (step c s p).answer } ∷ l) (log_on-image (step c s p).after (step_well_formed vector-range c s w p f.0) ps f.1))

  pub takens_on-image : (s : State vector) → well_formed c s ≡ true → (ps : List Step) → StepsFit ps → takens_on (image c s) ps ≡ takens c s ps
  takens_on-image s w [] f = refl
  takens_on-image s w (p ∷ ps) f =
      rw (step_on-image c s w p, state_back c s (images c s w))
      (ap (with_taken (step c s p).answer (taken s p)) (takens_on-image (step c s p).after (step_well_formed vector-range c s w p f.0) ps f.1))

-- what setup accepts
pub setup-accepts : (block a : List ℕ) → (setup_on block a).answer ≡ 0
    → (well_made_header block ≡ true) × (network_rules (block_config block) ≡ true) × ((setup_on block a).buffer ≡ image (block_config block) (initial vector (block_config block)))
unfolding setup_on
setup-accepts block a h =
    by_test (eqb (length a) 65536)
    (λ x. by_test (well_made_header block)
    (λ y. by_test (network_rules (block_config block)) (λ z. (y, z, rw (x, y, z))) (λ z. let e : ◌≡◌ {A = ℕ} 3 0 = rw (x, y, z) at h in absurd (omega arith)))
    (λ y. let e : ◌≡◌ {A = ℕ} 1 0 = rw (x, y) at h in absurd (omega arith)))
    (λ x. let e : ◌≡◌ {A = ℕ} 11 0 = rw x at h in absurd (omega arith))

pub demand3-over_areas : Demand3
demand3-over_areas block a b h ps f =
    let p = setup-accepts block a h in
    let c = block_config block in
    let m = accepted-well_made block b p.0 in
    let w = initial-well_formed vector-range c m p.1 in
    rw (p.2, log_on-image c (initial vector c) w ps f, takens_on-image c (initial vector c) w ps f) (demand3 c m p.1 ps)
