use mathlib.Core.Path.{refl}
use Rattle.reset_rules.proofs.with_done.Goals as goal

pub returns : goal.returns
returns c = (rw c.marked.ensures, refl)
