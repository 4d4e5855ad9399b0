use Rattle.checksum.specs.Check.{sealed}
use Rattle.checksum.proofs.sealed.Goals as goal

pub returns : goal.returns
unfolding sealed
returns c = rw (c.get.ensures, c.check.ensures)
