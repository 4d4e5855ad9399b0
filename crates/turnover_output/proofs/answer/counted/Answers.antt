use native.Mathlib.Omega.{arith}
use borrow.Author.Rules.{rules}
use Rattle.turnover_output.proofs.TextAtLaws.{text_more}
use Rattle.turnover_output.proofs.AnswerLaws.{length16, spaced_more}
use Rattle.turnover_output.proofs.answer.counted.Goals as goal

pub number-end-requires : goal.number-end-requires
number-end-requires c = omega (arith, length16 _ _ c.from.ensures (c.type_inv.counts c.loop-x.x-index))

pub loop-x-preserved : goal.loop-x-preserved
loop-x-preserved c =
    let w = c.word-b.ensures in
    let u = c.number-end.ensures in
    let e = c.from.ensures in
    (omega (arith, w.next, u.next, length16 _ _ e (c.type_inv.counts c.loop-x.x-index)), search rules, rw (spaced_more c.args.counts.now c.loop-x.x-index (omega arith), ← e) (text_more (text_more c.loop-x.invariant.2 w) u))
