use Rattle.codec.proofs.SpliceLaws.{Wrote}
use Rattle.sheet.specs.Sheet.{pair_verdicts}
use Rattle.sheet.proofs.put_verdicts.Given as goal

abbrev pub invariant-loop-i : goal.invariant-loop-i
invariant-loop-i l = Wrote l.initial.answers (pair_verdicts l.archive.bytes.now l.copies.bytes.now l.i) l.i l.answers
