use mathlib.Core.Path.{◌≡◌}
use native.Mathlib.Omega.{arith}
use Rattle.entries.proofs.Laws.{part_record}
use Rattle.block_test.proofs.SweepLaws.{looked_more}
use Rattle.block_test.proofs.Seen.up_to.Goals as goal

pub loop-k-init : goal.loop-k-init
loop-k-init c = (omega arith, c.args.self.looked)

pub loop-k-preserved : goal.loop-k-preserved
loop-k-preserved c =
    let l = c.loop-k in
    let a = c.args in
    let o = c.start_of-o in
    let p = part_record a.self.block.now l.k o.result o.ensures in
    let x = rw p at c.get-x.ensures in
    let d = c.differ-wrong in
    let own = rw (p, c.place_of.ensures.0, x) at c.get.ensures in
    let s = rw p at c.get-spare.ensures in
    let t = rw p at c.get-phases.ensures in
    (omega arith, rw (c.min-least.ensures, s, t) (looked_more a.self.known.now a.self.block.now l.k l.wrong l.least l.spare l.phases d.result c.get.result l.invariant.1 (rw x at d.ensures) own))

pub invariant_of-result : goal.invariant_of-result
invariant_of-result c =
    let e : c.loop-k.k ≡ c.args.end = omega arith in
    record { whole = c.args.self.whole; looked = rw e at c.loop-k.invariant.1 }
