use Rattle.header.specs.Header.{header_fits}
use Rattle.header.proofs.fields_fit.Goals as goal

pub returns : goal.returns
unfolding header_fits
returns c = rw (c.get.ensures, c.limits_small.ensures)
