use borrow.Author.Tests.{lt-ltb, le-ltb}
use Rattle.record.specs.Record.{record_fits}
use Rattle.record.proofs.record_fits.Goals as goal

pub returns-then-r-ge8 : goal.returns-then-r-ge8
unfolding record_fits
returns-then-r-ge8 c = rw (le-ltb _ 8 c.if-r-ge8.true)

pub returns : goal.returns
unfolding record_fits
returns c = rw (lt-ltb _ 8 c.if-r-ge8.false, c.from.ensures) (cc)
