use mathlib.Core.Path.{refl}
use Rattle.reset_rules.proofs.with_req.Goals as goal

pub returns : goal.returns
returns c = (rw c.marked.ensures, refl)
