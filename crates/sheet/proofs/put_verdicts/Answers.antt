use mathlib.Core.Path.{◌≡◌, refl, sym}
use native.Mathlib.Omega.{arith}
use Rattle.codec.proofs.SpliceLaws.{first, next_byte, splice_none}
use Rattle.sheet.proofs.Laws.{verdicts_none, verdicts_more}
use Rattle.sheet.proofs.put_verdicts.Goals as goal

pub loop-i-init : goal.loop-i-init
loop-i-init c = rw verdicts_none (first c.args.answers.now _ _ 0 refl (sym (splice_none c.args.answers.now 0)))

pub loop-i-preserved : goal.loop-i-preserved
loop-i-preserved c =
    rw (verdicts_more c.args.archive.bytes.now c.args.copies.bytes.now c.loop-i.i, ← c.pair_verdict.ensures) (next_byte c.pair_verdict.result c.loop-i.invariant (omega arith))

pub returns : goal.returns
returns c = let e : c.loop-i.i ≡ c.args.n = omega arith in (rw e at c.loop-i.invariant).is
