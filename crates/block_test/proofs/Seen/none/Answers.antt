use Rattle.block_test.proofs.SweepLaws.{looked_none}
use Rattle.block_test.proofs.Seen.none.Goals as goal

pub invariant_of-result : goal.invariant_of-result
invariant_of-result c = record { whole = c.requires; looked = looked_none c.args.known.now c.args.block.now }
