use mathlib.Core.Path.{◌≡◌, sym}
use native.Mathlib.Omega.{arith}
use Rattle.codec.proofs.EveryLaws.{every_none}
use Rattle.codec.proofs.FlagLaws.{every_turn}
use Rattle.entries.proofs.Laws.{part_record}
use Rattle.block_test.proofs.phases_fit.Goals as goal

pub loop-k-init : goal.loop-k-init
loop-k-init c = (omega arith, sym (every_none _))

pub loop-k-preserved : goal.loop-k-preserved
loop-k-preserved c =
    let l = c.loop-k in
    let a = c.args in
    let o = c.start_of-o in
    let p = part_record a.block.now l.k o.result o.ensures in
    let t = rw p at c.get.ensures in
    (omega arith, rw (every_turn, l.invariant.1, t))

pub returns : goal.returns
returns c =
    let e : c.loop-k.k ≡ c.args.count = omega arith in
    rw e at c.loop-k.invariant.1
