use mathlib.Core.Path.{◌≡◌, sym}
use native.Mathlib.Omega.{arith}
use Rattle.codec.proofs.EveryLaws.{every_none, every_more, every_fails}
use Rattle.reset.specs.Reach.{limit}
use Rattle.rules.proofs.row_below.Goals as goal

pub loop-j-init : goal.loop-j-init
unfolding limit
loop-j-init c = (omega arith, every_none _)

pub returns-then-not-i-top : goal.returns-then-not-i-top
unfolding limit
returns-then-not-i-top c = sym (every_fails 8 _ c.loop-j.j (omega arith) (rw c.from-top.ensures at c.if-not-i-top.true))

pub loop-j-preserved : goal.loop-j-preserved
unfolding limit
loop-j-preserved c = (omega arith, every_more _ _ c.loop-j.invariant.1 (rw c.from-top.ensures at c.if-not-i-top.false))

pub returns : goal.returns
unfolding limit
returns c = let e : c.loop-j.j ≡ 8 = omega arith in sym (rw e at c.loop-j.invariant.1)
