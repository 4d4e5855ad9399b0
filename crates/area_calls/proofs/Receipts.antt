-- How many receipts there are until rest over areas, from the same of the network. Assumes nothing.
use mathlib.Core.Path.{◌≡◌, refl}
use mathlib.Core.List.{List, [], ◌∷◌}
use mathlib.Core.Bool.{true}
use Rattle.reset.specs.Config.{Config}
use Rattle.reset.specs.Clock.{vector}
use Rattle.reset.specs.State.{State}
use Rattle.reset.specs.Steps.{Step, enter, send, recv, start}
use Rattle.reset.specs.Network.{initial, run}
use Rattle.reset.specs.Receipts.{receipts_to_rest, Receipts, Settling}
use Rattle.reset.specs.WellFormed.{well_formed, StepsFit}
use Rattle.reset.proofs.ClockRange.{vector-range}
use Rattle.reset.proofs.Formed.{initial-well_formed}
use Rattle.reset.proofs.ExactReceipts.{exact_receipts, settled-quiescent}
use Rattle.rules.specs.Setup.{block_config}
use Rattle.rules.proofs.Laws.{accepted-well_made}
use Rattle.area.specs.Layout.{image}
use Rattle.area.proofs.Exact.{formed-imaged as images, config_back, state_back, image-passes}
use Rattle.area_calls.specs.Calls.{receipts_left, receipts_on}
use Rattle.area_calls.specs.Sound.{SettlingOn, ExactReceipts}
use Rattle.area_calls.proofs.Demand3.{step_on-image, log_on-image, setup-accepts}
use Rattle.area_calls.proofs.Rest.{run-well_formed, run_on-image, rest_on-image}

-- a receipt has no register number of its own
receipts_fit : (qs : List Step) → Receipts qs → StepsFit qs
receipts_fit [] r = tt
receipts_fit (enter i g ∷ qs) r = absurd r
receipts_fit (send i j g ∷ qs) r = absurd r
receipts_fit (start i ∷ qs) r = absurd r
receipts_fit (recv i j ∷ qs) r = (refl, receipts_fit qs r)

module _ (c : Config) (s : State vector) (w : well_formed c s ≡ true) where
  -- the call on an image
  receipts_on-image : receipts_on (image c s) ≡ receipts_left (receipts_to_rest c s)
  unfolding receipts_on
  receipts_on-image = let v = images c s w in rw (image-passes c s w, config_back c s v, state_back c s v)

  settling_on_image : (qs : List Step) → Receipts qs → Settling c s qs → SettlingOn c (image c s) qs
  settling_on_image qs r k =
      let f = receipts_fit qs r in
      let w' = run-well_formed c s w qs f in
      let log-same = log_on-image c s w qs f in
      let run-same = run_on-image c s w qs f in
      let after = state_back c (run c s qs) (images c _ w') in
      let rest = rest_on-image c (run c s qs) w' in
      let quiet = settled-quiescent c s qs k in
      record {
        left = receipts_to_rest c s;
        told = receipts_on-image;
        at_most = rw log-same k.at_most;
        not_stuck = rw (log-same, run-same) (λ l. let t = k.not_stuck l in (t.0, t.1, rw (step_on-image c (run c s qs) w' (recv t.0 t.1)) t.2));
        no_shorter = rw (log-same, run-same) (λ n. k.no_shorter (λ t. n (t.0, t.1, rw (step_on-image c (run c s qs) w' (recv t.0 t.1)) t.2)));
        empties = rw (log-same, run-same, after) k.empties;
        rests = rw (log-same, run-same) (λ h. quiet.0 (rest.0 h), λ e. rest.1 (quiet.1 e));
        settled = rw (log-same, run-same, after, state_back c s (images c s w)) k.settled;
      }

pub exact_receipts_over_areas : ExactReceipts
exact_receipts_over_areas block a b h ps qs f r =
    let p = setup-accepts block a h in
    let c = block_config block in
    let m = accepted-well_made block b p.0 in
    let w = initial-well_formed vector-range c m p.1 in
    rw (p.2, run_on-image c (initial vector c) w ps f) (settling_on_image c (run c (initial vector c) ps) (run-well_formed c (initial vector c) w ps f) qs r (exact_receipts c m p.1 ps qs r))
