use Rattle.header.specs.Header.{header_fits}
use Rattle.header.proofs.header_fits.Goals as goal

pub returns : goal.returns
unfolding header_fits
returns c = rw c.limits_fit.ensures
