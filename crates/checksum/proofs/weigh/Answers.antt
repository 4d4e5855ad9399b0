use mathlib.Core.Path.{◌∙◌, sym}
use native.Mathlib.Omega.{arith}
use Rattle.checksum.proofs.CheckLaws.{zeros-behind}
use Rattle.checksum.proofs.weigh.Goals as goal

pub returns-then-zeros : goal.returns-then-zeros
returns-then-zeros c =
    let w = c.weigh_columns-sum.ensures in
    let s = c.args.s.now in
    let z = zeros-behind s 496 14 (omega arith) (sym c.zeros.ensures ∙ c.if-zeros.true) in
    (w.0 ∙ sym z, omega arith)

pub weigh_on-requires : goal.weigh_on-requires
weigh_on-requires c = (omega arith, omega arith, omega arith, omega arith, c.weigh_columns-sum.ensures.0)
