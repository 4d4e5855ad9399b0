use Rattle.std.proofs.Common.{◌≤◌}
use Rattle.check_network.proofs.flips.Given as goal

abbrev pub invariant-loop-p : goal.invariant-loop-p
invariant-loop-p l = (l.n ≤ l.p) × (l.p ≤ 65536)
