use mathlib.Core.Path.{◌≡◌, refl}
use native.Mathlib.Omega.{arith}
use lib.ListN.{take, get_or}
use lib.Seq.{take_all}
use Rattle.codec.specs.Every.{total}
use Rattle.codec.proofs.EveryLaws.{alike_or, alike-eqb, zeros-total, total_more}
use Rattle.codec.proofs.zeros.Goals as goal

pub loop-x-init : goal.loop-x-init
loop-x-init c = (omega arith, ((λ _. zeros-total 0), (λ _. refl)))

pub loop-x-preserved : goal.loop-x-preserved
loop-x-preserved c =
    let l = c.loop-x in
    let a = c.args.s.now in
    (omega arith, rw (total_more a l.x-index (omega arith)) (alike_or l.acc (total (take l.x-index a)) (get_or a l.x-index 0) l.invariant.1))

pub returns : goal.returns
returns c =
    let l = c.loop-x in
    let a = c.args.s.now in
    let e : take l.x-index a ≡ a = take_all l.x-index a (omega arith) in
    alike-eqb l.acc (total a) (rw e at l.invariant.1)
