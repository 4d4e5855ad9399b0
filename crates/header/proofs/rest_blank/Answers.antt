use mathlib.Core.Path.{sym}
use Rattle.codec.proofs.EveryLaws.{zeros_overlap}
use Rattle.header.proofs.rest_blank.Goals as goal

pub returns : goal.returns
returns c =
    rw (c.zeros.ensures, c.zeros-2.ensures) (sym (zeros_overlap c.args.s.now 96 398 2 14))
