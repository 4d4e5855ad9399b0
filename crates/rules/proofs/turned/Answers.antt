use Rattle.codec.specs.Rows.{upto}
use Rattle.rules.specs.Table.{turned_of}
use Rattle.rules.proofs.turned.Goals as goal

pub returns : goal.returns
unfolding turned_of upto
returns c = cc
