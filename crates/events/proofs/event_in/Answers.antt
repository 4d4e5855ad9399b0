use Rattle.entries.proofs.Laws.{part_record}
use Rattle.events.proofs.event_in.Goals as goal

pub returns : goal.returns
returns c = rw (part_record _ _ _ c.start_of-o.ensures) at c.load.ensures
