use mathlib.Core.Path.{refl}
use Rattle.codec.specs.Rows.{upto}
use Rattle.reset.specs.Reach.{limit}
use Rattle.rules.specs.Table.{column_of}
use Rattle.rules.proofs.column.Goals as goal

pub returns : goal.returns
unfolding column_of upto limit
returns c = refl
