use native.Mathlib.Omega.{arith}
use Rattle.events.specs.Events.{event_at}
use Rattle.archive.proofs.Tested.{record_length_lem}
use Rattle.events.proofs.event_at.Goals as goal

pub load-requires : goal.load-requires
load-requires c = rw c.record.ensures (omega (arith, record_length_lem c.args.archive.bytes.now c.args.archive.tested c.args.k c.requires))

pub returns : goal.returns
unfolding event_at
returns c = rw (← c.record.ensures) c.load.ensures
