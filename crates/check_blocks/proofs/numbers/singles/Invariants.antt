use Rattle.std.proofs.Common.{◌*◌, ◌≤◌}
use Rattle.check_blocks.proofs.numbers.singles.Given as goal

abbrev pub invariant-loop-p : goal.invariant-loop-p
invariant-loop-p l = (l.n ≤ l.p * 65535) × (l.p ≤ 510)
