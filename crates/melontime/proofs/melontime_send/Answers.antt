use Rattle.melontime.proofs.Laws.{unfit, answered}
use Rattle.melontime.proofs.melontime_send.Goals as goal

pub returns-then-event-ne-RECORD : goal.returns-then-event-ne-RECORD
returns-then-event-ne-RECORD c = rw c.refused.ensures (unfit c.if-event-ne-RECORD.true)

pub returns : goal.returns
returns c = answered c.if-event-ne-RECORD.false c.send.ensures c.tell.ensures
