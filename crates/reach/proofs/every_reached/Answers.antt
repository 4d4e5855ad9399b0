use mathlib.Core.Path.{◌≡◌, ◌∙◌, sym, ap}
use mathlib.Core.Bool.{not}
use native.Mathlib.Omega.{arith}
use borrow.Author.Tests.{eq-eqb, ne_eqb}
use Rattle.codec.proofs.EveryLaws.{every_none, every_more, every_fails}
use Rattle.reset.specs.Reach.{is_seen, every_reached}
use Rattle.reach.proofs.EarlierLaws.{order-reached}
use Rattle.reach.proofs.SpreadLaws.{not-above}
use Rattle.reach.proofs.every_reached.Goals as goal

pub returns-then-n-gt8 : goal.returns-then-n-gt8
returns-then-n-gt8 c = sym (not-above _ _ c.if-n-gt8.true)

pub returns-then-in_order : goal.returns-then-in_order
returns-then-in_order c =
    sym (order-reached c.args.limits _ c.well_formed.1.0 c.args.n (sym c.in_order.ensures ∙ c.if-in_order.true))

pub loop-i-init : goal.loop-i-init
loop-i-init c = (every_none _)

pub returns-then-seen-i-eq0 : goal.returns-then-seen-i-eq0
unfolding every_reached
returns-then-seen-i-eq0 c =
    let l = c.loop-i in
    let e = c.spread-seen.ensures in
    sym (rw e at (every_fails c.args.n (is_seen c.spread-seen.result) l.i (omega arith) (ap not (eq-eqb _ _ c.if-seen-i-eq0.true))))

pub loop-i-preserved : goal.loop-i-preserved
loop-i-preserved c =
    let l = c.loop-i in
    (every_more l.i _ l.invariant (ap not (ne_eqb _ _ c.if-seen-i-eq0.false)))

pub returns : goal.returns
unfolding every_reached
returns c =
    let l = c.loop-i in
    let e : l.i ≡ c.args.n = omega arith in
    sym (rw (e, c.spread-seen.ensures) at l.invariant)
