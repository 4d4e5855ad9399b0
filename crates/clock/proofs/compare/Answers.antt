use mathlib.Core.Path.{◌≡◌, ◌∙◌, sym}
use native.Mathlib.Omega.{arith}
use Rattle.codec.proofs.EveryLaws.{every_none}
use Rattle.clock.proofs.CompareLaws.{less_turn, by_flags_lem}
use Rattle.clock.specs.Order.{no_greater}
use Rattle.clock.proofs.compare.Goals as goal

pub loop-k-init : goal.loop-k-init
loop-k-init c = (omega arith, sym (every_none _), sym (every_none _))

pub loop-k-preserved : goal.loop-k-preserved
loop-k-preserved c =
    let a = c.args in
    let l = c.loop-k in
    (omega arith, less_turn a.a a.b l.k l.less l.invariant.1, less_turn a.b a.a l.k l.greater l.invariant.2)

pub returns : goal.returns
unfolding no_greater
returns c =
    let a = c.args in
    let l = c.loop-k in
    let e : l.k ≡ 8 = omega arith in
    c.decide.ensures ∙ by_flags_lem a.a a.b l.less l.greater (rw e at l.invariant.1) (rw e at l.invariant.2)
