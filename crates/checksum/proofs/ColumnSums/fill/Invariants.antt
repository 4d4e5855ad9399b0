use Prim.Native.Nat.{◌≤◌}
use Rattle.checksum.specs.Columns.{Columns}
use Rattle.checksum.proofs.ColumnSums.fill.Given as goal

abbrev pub invariant-loop-j : goal.invariant-loop-j
invariant-loop-j l = (l.j ≤ l.end) × Columns l.s l.j l.self.lows l.self.highs
