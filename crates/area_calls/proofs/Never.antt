-- After an accepted setup no step of any list over areas is answered with 2, for none meets a bound in the network. Assumes nothing.
use Rattle.reset.specs.Clock.{vector}
use Rattle.reset.specs.Network.{initial, run}
use Rattle.reset.proofs.ClockRange.{vector-range}
use Rattle.reset.proofs.Formed.{initial-well_formed}
use Rattle.reset.proofs.NeverBeyond.{never_beyond}
use Rattle.rules.specs.Setup.{block_config}
use Rattle.rules.proofs.Laws.{accepted-well_made}
use Rattle.area_calls.specs.Sound.{NeverTwo}
use Rattle.area_calls.proofs.Demand3.{step_on-image, setup-accepts}
use Rattle.area_calls.proofs.Rest.{run-well_formed, run_on-image}

pub never_two : NeverTwo
never_two block a b h ps f p =
    let q = setup-accepts block a h in
    let c = block_config block in
    let m = accepted-well_made block b q.0 in
    let w = initial-well_formed vector-range c m q.1 in
    let v = run-well_formed c (initial vector c) w ps f in
    rw (q.2, run_on-image c (initial vector c) w ps f, step_on-image c (run c (initial vector c) ps) v p) (never_beyond c m q.1 ps p).not_two
