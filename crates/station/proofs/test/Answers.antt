use mathlib.Core.Path.{sym}
use native.Mathlib.Omega.{arith}
use Rattle.station.proofs.ByteLaws.{test_is}
use Rattle.station.proofs.test.Goals as goal

pub returns : goal.returns
returns c =
    rw (
      c.marks_fit.ensures,
      c.sent_fit.ensures,
      c.get-4.ensures,
      c.get-3.ensures,
      c.bound-2.ensures,
      c.get-2.ensures,
      c.bound.ensures,
      c.from-2.ensures,
      c.counts_fit.ensures,
      c.get.ensures,
      c.from.ensures,
    )
    (sym (test_is c.args.head.now c.args.i (omega arith) c.args.part.now))
