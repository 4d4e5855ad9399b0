-- The same over areas: the archive's header is the block that setup was given, and its entries are those of the run over areas. Assumes nothing.
use Rattle.header.proofs.Laws.{accepted_is_image}
use Rattle.reset.specs.Config.{Config}
use Rattle.reset.specs.Clock.{vector}
use Rattle.reset.specs.Network.{initial}
use Rattle.reset.proofs.ClockRange.{vector-range}
use Rattle.reset.proofs.Formed.{initial-well_formed}
use Rattle.rules.specs.Setup.{block_config}
use Rattle.rules.proofs.Laws.{accepted-well_made}
use Rattle.area_calls.proofs.Demand3.{setup-accepts, log_on-image}
use Rattle.run_archive.specs.Claims.{EveryChronicle}
use Rattle.run_archive.proofs.Told.{every_archive}

pub every_chronicle : EveryChronicle
every_chronicle block a b h ps f =
    let p = setup-accepts block a h in
    let c : Config = block_config block in
    let m = accepted-well_made block b p.0 in
    let w = initial-well_formed vector-range c m p.1 in
    rw (p.2, log_on-image c (initial vector c) w ps f)
    (λ few. let q = every_archive c m p.1 ps f few in record { header_is = accepted_is_image block b p.0; archived = q.0; tells = q.1 })
