use mathlib.Core.Path.{◌≡◌, sym, ap}
use mathlib.Core.Bool.{not}
use native.Mathlib.Omega.{arith}
use Rattle.codec.proofs.EveryLaws.{every_none, every_more, every_fails}
use Rattle.reset.specs.Reach.{limit, linked, apart}
use Rattle.reach.proofs.is_apart.Goals as goal

pub loop-i-init : goal.loop-i-init
unfolding apart linked limit
loop-i-init c = (omega arith, every_none _)

pub returns-then-seen-i : goal.returns-then-seen-i
unfolding apart linked limit
returns-then-seen-i c = sym (every_fails 8 _ c.loop-i.i (omega arith) (ap not c.if-seen-i.true))

pub loop-i-preserved : goal.loop-i-preserved
unfolding apart linked limit
loop-i-preserved c = (omega arith, every_more _ _ c.loop-i.invariant.1 (ap not c.if-seen-i.false))

pub returns : goal.returns
unfolding apart linked limit
returns c = let e : c.loop-i.i ≡ 8 = omega arith in sym (rw e at c.loop-i.invariant.1)
