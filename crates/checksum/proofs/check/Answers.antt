use Rattle.checksum.specs.Check.{check_of}
use Rattle.checksum.proofs.check.Goals as goal

pub returns : goal.returns
unfolding check_of
returns c = rw c.weigh.ensures.0
