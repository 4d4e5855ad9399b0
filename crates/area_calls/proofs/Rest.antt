-- What rest tells over areas, from what it tells of the network. Assumes nothing.
use mathlib.Core.Path.{◌≡◌, refl}
use mathlib.Core.Logic.{◌↔◌}
use mathlib.Core.List.{List, [], ◌∷◌}
use mathlib.Core.Bool.{true}
use Rattle.reset.specs.Config.{Config}
use Rattle.reset.specs.Clock.{vector}
use Rattle.reset.specs.State.{State}
use Rattle.reset.specs.Steps.{Step, step}
use Rattle.reset.specs.Network.{initial, run, quiescent}
use Rattle.reset.specs.WellFormed.{well_formed, StepsFit}
use Rattle.reset.proofs.ClockRange.{vector-range}
use Rattle.reset.proofs.Formed.{initial-well_formed, step_well_formed}
use Rattle.rules.specs.Setup.{block_config}
use Rattle.rules.proofs.Laws.{accepted-well_made}
use Rattle.causality.proofs.Rest.{rest-tells}
use Rattle.area.specs.Layout.{image}
use Rattle.area.proofs.Exact.{formed-imaged as images, config_back, state_back, image-passes}
use Rattle.area_calls.specs.Calls.{yes, no, rest_on}
use Rattle.area_calls.specs.Sound.{run_on, RestTells}
use Rattle.area_calls.proofs.Demand3.{step_on-image, log_on-image, setup-accepts}
use Rattle.reset.proofs.Cases.{by_test, clash}

module _ (c : Config) where
  -- the area after a list of steps is the image of the state after it, which is well formed
  pub run-well_formed : (s : State vector) → well_formed c s ≡ true → (ps : List Step) → StepsFit ps → well_formed c (run c s ps) ≡ true
  run-well_formed s w [] f = w
  run-well_formed s w (p ∷ ps) f = run-well_formed (step c s p).after (step_well_formed vector-range c s w p f.0) ps f.1

  pub run_on-image : (s : State vector) → well_formed c s ≡ true → (ps : List Step) → StepsFit ps → run_on (image c s) ps ≡ image c (run c s ps)
  run_on-image s w [] f = refl
  run_on-image s w (p ∷ ps) f = rw (step_on-image c s w p) (run_on-image (step c s p).after (step_well_formed vector-range c s w p f.0) ps f.1)

  -- rest on an image
  pub rest_on-image : (s : State vector) → well_formed c s ≡ true → (rest_on (image c s) ≡ yes) ↔ (quiescent c s ≡ true)
  unfolding rest_on
  rest_on-image s w =
      let v = images c s w in
      rw (image-passes c s w, config_back c s v, state_back c s v)
      (λ h. by_test (quiescent c s) (λ e. e) (λ e. let z : no ≡ yes = rw e at h in clash (cc)), λ h. rw h)

pub rest-tells-over_areas : RestTells
rest-tells-over_areas block a b h ps f =
    let p = setup-accepts block a h in
    let c = block_config block in
    let m = accepted-well_made block b p.0 in
    let w = initial-well_formed vector-range c m p.1 in
    let v = run-well_formed c (initial vector c) w ps f in
    let t = rest-tells c m p.1 ps in
    let r = rest_on-image c (run c (initial vector c) ps) v in
    rw (p.2, log_on-image c (initial vector c) w ps f, run_on-image c (initial vector c) w ps f, state_back c (run c (initial vector c) ps) (images c _ v))
    (λ q. t.0 (r.0 q), λ q. r.1 (t.1 q))
