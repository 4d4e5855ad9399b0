use mathlib.Core.Path.{◌≡◌, refl, sym, ◌∙◌}
use mathlib.Core.Bool.{◌||◌}
use native.Mathlib.Omega.{arith}
use borrow.Author.Tests.{ne_eqb}
use lib.Dec.{eqb}
use Rattle.codec.specs.Every.{every}
use Rattle.codec.proofs.EveryLaws.{every_at, every_of, every_more, every_fails}
use Rattle.reach.specs.Order.{has_earlier, in_order}
use Rattle.reach.proofs.in_order.Goals as goal
use Rattle.reach.proofs.in_order.Goals.{After-has_earlier}

-- the test of a station but 0
tested : (c : goal.After-has_earlier) → let j = c.loop-j.j in (eqb j 0 || has_earlier c.args.limits j) ≡ c.has_earlier.result
tested c = rw (ne_eqb c.loop-j.j 0 (λ e. omega arith)) (sym c.has_earlier.ensures)

pub loop-j-init : goal.loop-j-init
unfolding every
loop-j-init c = (omega arith, refl)

pub returns-then-not-has_earlier : goal.returns-then-not-has_earlier
unfolding in_order
returns-then-not-has_earlier c = sym (every_fails _ _ c.loop-j.j (omega arith) (tested (goal.at.returns-then-not-has_earlier c).After-has_earlier ∙ c.if-not-has_earlier.true))

pub loop-j-preserved : goal.loop-j-preserved
loop-j-preserved c =
    let l = c.loop-j in
    (omega arith, every_more l.j _ l.invariant.1 (tested (goal.at.loop-j-preserved c).After-has_earlier ∙ c.if-not-has_earlier.false))

pub returns : goal.returns
unfolding in_order
returns c = sym (every_of _ _ (λ k h. every_at c.loop-j.j _ k c.loop-j.invariant.1 (omega arith)))
