use Rattle.std.proofs.Common.{◌*◌, ◌≤◌}
use Rattle.check_vectors.proofs.sweeps.all_moves.Given as goal

abbrev pub invariant-loop-by : goal.invariant-loop-by
invariant-loop-by l = (l.n ≤ l.by * 512) × (l.by ≤ 256)
