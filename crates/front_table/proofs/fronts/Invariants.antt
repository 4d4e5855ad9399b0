use Prim.Native.Nat.{◌≤◌}
use Rattle.header.specs.Header.{table_at}
use Rattle.front_table.proofs.TableLaws.{Filled}
use Rattle.front_table.proofs.fronts.Given as goal

abbrev pub invariant-loop-p : goal.invariant-loop-p
invariant-loop-p l = (l.p ≤ 8) × Filled l.n (table_at 8 l.head 32) l.p l.r
