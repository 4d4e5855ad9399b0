use mathlib.Core.Path.{◌≡◌, sym, ◌∙◌}
use native.Mathlib.Omega.{arith}
use Rattle.codec.proofs.EveryLaws.{every_none, every_more, every_fails}
use Rattle.rules.proofs.links_below.Goals as goal

pub loop-i-init : goal.loop-i-init
loop-i-init c = (omega arith, every_none _)

pub returns-then-not-row_below : goal.returns-then-not-row_below
returns-then-not-row_below c = sym (every_fails 8 _ c.loop-i.i (omega arith) (sym c.row_below.ensures ∙ c.if-not-row_below.true))

pub loop-i-preserved : goal.loop-i-preserved
loop-i-preserved c = (omega arith, every_more _ _ c.loop-i.invariant.1 (sym c.row_below.ensures ∙ c.if-not-row_below.false))

pub returns : goal.returns
returns c = let e : c.loop-i.i ≡ 8 = omega arith in sym (rw e at c.loop-i.invariant.1)
