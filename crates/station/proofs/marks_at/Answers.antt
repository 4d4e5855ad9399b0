use Rattle.codec.specs.Rows.{upto}
use Rattle.station.proofs.marks_at.Goals as goal

pub returns : goal.returns
unfolding upto
returns c = rw c.bytes_at-b.ensures
