use native.Mathlib.Omega.{arith}
use Rattle.checksum.proofs.CheckLaws.{sealed-short}
use Rattle.checksum.proofs.sealed_columns.Goals as goal

pub returns : goal.returns
returns c =
    let s = c.args.s.now in
    let w = c.weigh_columns-sum in
    rw (c.zeros.ensures, c.get.ensures) (sealed-short s w.result (omega arith) w.ensures.0)
