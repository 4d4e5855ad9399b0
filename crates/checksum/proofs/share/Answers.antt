use mathlib.Core.Path.{◌≡◌}
use native.Mathlib.Omega.{arith}
use Rattle.checksum.proofs.ColumnLaws.{share_small}
use Rattle.checksum.proofs.share.Goals as goal

pub overflow_mul-result-2 : goal.overflow_mul-result-2
overflow_mul-result-2 c = omega (arith, share_small c.args.k c.from-2.result 3825 (omega arith) (omega arith))

pub overflow_add-result-2 : goal.overflow_add-result-2
overflow_add-result-2 c = omega (arith, share_small c.args.k c.from-2.result 3825 (omega arith) (omega arith))

pub returns : goal.returns
returns c =
    let e : c.from-2.result ≡ c.args.low = omega arith in
    rw (c.from.ensures, e) (omega (arith, share_small c.args.k c.args.low 3825 (omega arith) (omega arith)))
