use mathlib.Core.Path.{◌≡◌}
use native.Mathlib.Omega.{arith}
use Rattle.checksum.proofs.ColumnLaws.{none, turn_rows}
use Rattle.checksum.proofs.column.Goals as goal

pub loop-r-preserved : goal.loop-r-preserved
loop-r-preserved c =
    let l = c.loop-r in
    let a = c.args in
    let t = turn_rows a.s.now a.j l.r l.low l.high c.from-low.result (omega arith) c.from-low.ensures l.invariant.3 l.invariant.4 in
    (omega arith, omega arith, omega arith, t.0, t.1)

pub returns : goal.returns
returns c =
    let l = c.loop-r in
    let a = c.args in
    let z : l.r ≡ 0 = omega arith in
    let n = none a.s.now a.j in
    let f = rw z at l.invariant.3 in
    let g = rw z at l.invariant.4 in
    (omega arith, omega arith, omega arith, omega arith)
