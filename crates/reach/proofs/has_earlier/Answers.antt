use mathlib.Core.Path.{◌≡◌, sym, ap}
use mathlib.Core.Bool.{not}
use native.Mathlib.Omega.{arith}
use borrow.Author.Tests.{eq-eqb, ne_eqb}
use Rattle.codec.proofs.EveryLaws.{every_none, every_more, every_fails}
use Rattle.reset.specs.Reach.{limit}
use Rattle.reach.specs.Order.{has_earlier}
use Rattle.reach.proofs.has_earlier.Goals as goal

pub loop-i-init : goal.loop-i-init
unfolding has_earlier limit
loop-i-init c = (omega arith, every_none _)

pub returns-then-limits-i-ne0 : goal.returns-then-limits-i-ne0
unfolding has_earlier limit
returns-then-limits-i-ne0 c = sym (ap not (every_fails _ _ c.loop-i.i (omega arith) (ne_eqb _ _ c.if-limits-i-ne0.true)))

pub loop-i-preserved : goal.loop-i-preserved
unfolding has_earlier limit
loop-i-preserved c = (omega arith, every_more _ _ c.loop-i.invariant.1 (eq-eqb _ _ (omega arith)))

pub returns : goal.returns
unfolding has_earlier limit
returns c = let e : c.loop-i.i ≡ c.args.j = omega arith in sym (ap not (rw e at c.loop-i.invariant.1))
