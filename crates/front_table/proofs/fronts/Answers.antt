use mathlib.Core.Path.{◌≡◌, ◌∙◌}
use lib.ListN.{length-set}
use native.Mathlib.Omega.{arith}
use Rattle.header.specs.Header.{table_at}
use Rattle.front_table.proofs.TableLaws.{filled_none, filled_more}
use Rattle.front_table.proofs.fronts.Goals as goal

pub loop-p-init : goal.loop-p-init
loop-p-init c = (omega arith, filled_none c.args.n (table_at 8 c.args.head.now 32))

pub fill-requires : goal.fill-requires
fill-requires c = (rw length-set c.loop-p.invariant.1.0, c.requires, omega arith, omega arith)

pub fill-requires-in-loop-p : goal.fill-requires-in-loop-p
fill-requires-in-loop-p c =
    let l = c.loop-p in
    (c.fill.ensures.0 ∙ (rw length-set l.invariant.1.0), c.requires, omega arith, omega arith)

pub loop-p-preserved : goal.loop-p-preserved
loop-p-preserved c =
    let l = c.loop-p in
    let m = table_at 8 c.args.head.now 32 in
    (omega arith, filled_more c.args.n m l.p l.r c.fill.new.r c.fill-in-loop-p.new.r (omega arith) l.invariant.1 c.fill.ensures c.fill-in-loop-p.ensures)

pub returns : goal.returns
returns c i h =
    let e : c.loop-p.p ≡ 8 = omega arith in
    c.loop-p.invariant.1.1 i h (λ z. omega arith) (λ z. omega arith)
