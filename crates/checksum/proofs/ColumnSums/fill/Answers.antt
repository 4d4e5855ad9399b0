use mathlib.Core.Path.{◌≡◌}
use native.Mathlib.Omega.{arith}
use lib.ListN.{length-set}
use Rattle.checksum.proofs.ColumnLaws.{sums_more}
use Rattle.checksum.proofs.ColumnSums.fill.Goals as goal

pub loop-j-init : goal.loop-j-init
loop-j-init c = (omega arith, c.requires.3)

pub loop-j-preserved : goal.loop-j-preserved
loop-j-preserved c =
    let l = c.loop-j in
    let a = c.args in
    (omega arith, (simp length-set l.invariant.1.0, simp length-set l.invariant.1.1, sums_more a.s.now l.self.lows l.self.highs l.j c.column-c.result.low c.column-c.result.high (omega arith) (omega arith) l.invariant.1.2 c.column-c.ensures))

pub returns : goal.returns
returns c =
    let e : c.loop-j.j ≡ c.args.end = omega arith in
    rw e at c.loop-j.invariant.1
