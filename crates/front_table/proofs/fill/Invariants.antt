use Prim.Native.Nat.{◌+◌, ◌*◌, ◌≤◌}
use Rattle.header.specs.Header.{table_at}
use Rattle.record.specs.Record.{kind_byte}
use Rattle.front_table.specs.Fronts.{Row}
use Rattle.front_table.proofs.fill.Given as goal

abbrev pub invariant-loop-s : goal.invariant-loop-s
invariant-loop-s l = (l.s ≤ 8) × Row l.n (table_at 8 l.head 32) (kind_byte l.kind * 8 + l.p) l.s l.initial.r l.r
