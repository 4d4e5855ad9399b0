use Rattle.std.proofs.Common.{◌<◌}
use Rattle.check_vectors.proofs.digest.Given as goal

abbrev pub invariant-loop-x : goal.invariant-loop-x
invariant-loop-x l = l.h < 1000000007
