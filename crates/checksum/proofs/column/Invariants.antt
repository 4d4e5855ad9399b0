use Prim.Native.Nat.{◌+◌, ◌*◌, ◌≤◌}
use mathlib.Core.Path.{◌≡◌}
use Rattle.checksum.specs.Columns.{column_sum, column_rows}
use Rattle.checksum.proofs.column.Given as goal

abbrev pub invariant-loop-r : goal.invariant-loop-r
invariant-loop-r l = (l.r ≤ 15) × (l.low + 255 * l.r ≤ 3825) × (l.high + 3570 * l.r ≤ 53550) × (l.low + column_sum l.r l.s l.j ≡ column_sum 15 l.s l.j) × (l.high + l.r * l.low + column_rows l.r l.s l.j ≡ column_rows 15 l.s l.j)
