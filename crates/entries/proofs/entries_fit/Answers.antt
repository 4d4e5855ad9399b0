use Rattle.entries.specs.Entries.{entries_fit}
use Rattle.entries.proofs.entries_fit.Goals as goal

pub returns : goal.returns
unfolding entries_fit
returns c = rw c.records_fit.ensures
