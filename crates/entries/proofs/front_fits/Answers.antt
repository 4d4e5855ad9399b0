use Rattle.entries.specs.Entries.{front_fits}
use Rattle.entries.proofs.front_fits.Goals as goal

pub returns : goal.returns
unfolding front_fits
returns c = rw (c.sealed.ensures, c.fields_fit.ensures)
