use mathlib.Core.Path.{refl}
use Rattle.codec.specs.Rows.{upto}
use Rattle.setup.proofs.neighbours.Goals as goal

pub returns : goal.returns
unfolding upto
returns c = refl
