use borrow.Author.Tests.{eq-eqb, ne_eqb}
use Rattle.record.proofs.doubled.Goals as goal

pub returns-then-peer-eq255 : goal.returns-then-peer-eq255
returns-then-peer-eq255 c = rw (eq-eqb _ 255 c.if-peer-eq255.true, c.from-k.ensures)

pub returns-else-peer-eq255 : goal.returns-else-peer-eq255
returns-else-peer-eq255 c = rw (ne_eqb _ 255 c.if-peer-eq255.false, c.from-k.ensures)
