use mathlib.Core.Path.{◌≡◌, refl, ◌∙◌, sym}
use mathlib.Core.Bool.{and-true}
use native.Mathlib.Omega.{arith}
use borrow.Author.Tests.{le-leb, lt-leb}
use lib.ListN.{get_or}
use Rattle.codec.proofs.EveryLaws.{every_none, every_fails}
use Rattle.codec.proofs.FlagLaws.{every_turn}
use Rattle.clock.proofs.MergeLaws.{merged-length}
use Rattle.queue.specs.Queue.{place_at, items_pass}
use Rattle.link.specs.Image.{item_test, items_test, sized}
use Rattle.link.proofs.GatherLaws.{none_fit, merged_fit, message-test, control-test}
use Rattle.link.proofs.items_fit.Goals as goal
use Rattle.link.proofs.items_fit.Goals.{After-is_control}

-- the test of a place that holds no message
tested : (c : goal.After-is_control)
    → let s = c.args in
    item_test (sized s.n s.t) (place_at 21 s.part.now c.loop-k.k) ≡ c.is_control.result
tested c =
    let e = c.place-item.ensures.0 in
    control-test _ _ _ (rw e at c.if-item-eq-MESSAGE.false) ∙ sym (rw e at c.is_control.ensures)

pub returns-then-places-from : goal.returns-then-places-from
unfolding items_test items_pass
returns-then-places-from c = rw (lt-leb (get_or c.args.part.now 0 0) c.args.places (omega arith))

pub loop-k-init : goal.loop-k-init
unfolding items_test items_pass
loop-k-init c = (refl, every_none _ ∙ sym (none_fit _ _))

pub loop-k-preserved-then-item-eq-MESSAGE : goal.loop-k-preserved-then-item-eq-MESSAGE
loop-k-preserved-then-item-eq-MESSAGE c =
    let s = c.args in
    let e = c.place-item.ensures.0 in (
      rw (c.merge-more.ensures, merged-length) c.loop-k.invariant.0,
      rw (every_turn, c.loop-k.invariant.1, message-test s.n s.t _ (rw e at c.if-item-eq-MESSAGE.true), c.merge-more.ensures, merged_fit s.n s.t c.loop-k.most _ c.loop-k.invariant.0, rw e at c.get_row.ensures),
    )

pub returns-then-not-is_control : goal.returns-then-not-is_control
unfolding items_test items_pass
returns-then-not-is_control c =
    rw (le-leb (get_or c.args.part.now 0 0) c.args.places (omega arith), every_fails (get_or c.args.part.now 0 0) _ c.loop-k.k (omega arith) (tested (goal.at.returns-then-not-is_control c).After-is_control ∙ c.if-not-is_control.true))

pub loop-k-preserved : goal.loop-k-preserved
loop-k-preserved c =
    let l = c.loop-k in
    (l.invariant.0, rw (every_turn, tested (goal.at.loop-k-preserved c).After-is_control ∙ c.if-not-is_control.false, and-true) l.invariant.1)

pub returns : goal.returns
unfolding items_test items_pass
returns c =
    let e : c.loop-k.k ≡ get_or c.args.part.now 0 0 = omega arith in
    rw (le-leb (get_or c.args.part.now 0 0) c.args.places (omega arith), c.counts_fit.ensures) (sym (rw e at c.loop-k.invariant.1))
