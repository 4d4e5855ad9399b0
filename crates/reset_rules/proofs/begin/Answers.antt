use mathlib.Core.Path.{refl}
use Rattle.reset.specs.State.{none_seen}
use Rattle.reset_rules.proofs.begin.Goals as goal

pub returns : goal.returns
unfolding none_seen
returns c = refl
