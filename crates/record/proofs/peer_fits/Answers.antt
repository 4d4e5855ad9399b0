use Rattle.record.proofs.Laws.{peer_law}
use Rattle.record.proofs.peer_fits.Goals as goal

pub returns : goal.returns
returns c = let a = c.args in rw c.doubled.ensures (peer_law a.kind a.station a.peer c.requires)
