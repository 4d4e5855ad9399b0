use mathlib.Core.Path.{◌≡◌}
use native.Mathlib.Omega.{arith}
use Rattle.checksum.proofs.ColumnLaws.{no_columns, columns_more}
use Rattle.checksum.proofs.weigh_front.Goals as goal

pub loop-i-init : goal.loop-i-init
loop-i-init c = omega (arith, no_columns 3 c.args.s.now)

pub loop-i-preserved : goal.loop-i-preserved
loop-i-preserved c =
    let l = c.loop-i in
    let s = c.args.s.now in
    omega (arith, columns_more 3 l.i s)

pub returns : goal.returns
returns c =
    let l = c.loop-i in
    let e : l.i ≡ 32 = omega arith in
    let f = rw e at l.invariant.3 in
    omega arith
