use mathlib.Core.Path.{◌≡◌, ◌∙◌, sym}
use native.Mathlib.Omega.{arith}
use Rattle.codec.proofs.EveryLaws.{every_none}
use Rattle.codec.proofs.FlagLaws.{every_turn}
use Rattle.header.proofs.Laws.{limits_bytes}
use Rattle.header.proofs.limits_small.Goals as goal

pub loop-i-init : goal.loop-i-init
loop-i-init c = (omega arith, sym (every_none _))

pub loop-i-preserved : goal.loop-i-preserved
loop-i-preserved c = (omega arith, rw (every_turn, c.loop-i.invariant.1))

pub returns : goal.returns
returns c =
    let l = c.loop-i in
    let e : l.i ≡ 64 = omega arith in
    (rw e at l.invariant.1) ∙ sym (limits_bytes c.args.s.now 32)
