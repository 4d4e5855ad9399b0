use Prim.Native.Nat.{◌≤◌}
use Rattle.rules.specs.Setup.{block_config}
use Rattle.area.proofs.Runs.{Read}
use Rattle.area.proofs.Area.links_fit.Given as goal

abbrev pub invariant-loop-k : goal.invariant-loop-k
invariant-loop-k l = (l.k ≤ 64) × Read (block_config l.self.head.now) l.self.area.now l.k l.from
