use native.Mathlib.Omega.{arith}
use Rattle.events.specs.Events.{event_at}
use Rattle.archive.proofs.Tested.{record_length_lem}
use Rattle.events.proofs.event_of.Goals as goal

pub load-requires : goal.load-requires
load-requires c =
    rw c.part_of.ensures (omega (arith, record_length_lem c.args.archive.bytes.now c.args.archive.tested c.args.p.number c.requires))

pub returns : goal.returns
unfolding event_at
returns c = rw (← c.part_of.ensures) c.load.ensures
