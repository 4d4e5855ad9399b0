use Prim.Native.Nat.{◌≤◌}
use Rattle.block_test.specs.Sweep.{Looked}
use Rattle.block_test.proofs.Seen.up_to.Given as goal

abbrev pub invariant-loop-k : goal.invariant-loop-k
invariant-loop-k l = (l.k ≤ l.end) × Looked l.self.known.now l.self.block.now l.k l.wrong l.least l.spare l.phases
