use lib.ListN.{get_or}
use Rattle.codec.specs.Num.{num_at}
use Rattle.record.proofs.Laws.{spare_law}
use Rattle.record.proofs.spare.Goals as goal

pub returns : goal.returns
returns c =
    let l = c.args.s.now in
    rw (c.from.ensures, c.get.ensures, c.from-2.ensures) (spare_law (get_or l 3 0) (num_at 4 l 12) (get_or l 1 0))
