use Rattle.checksum.proofs.CheckLaws.{sealed_at}
use Rattle.checksum.proofs.seal.Goals as goal

pub returns : goal.returns
returns c =
    sealed_at c.args.d.now c.put.new.d c.check-sum.result c.requires c.check-sum.ensures c.put.ensures
