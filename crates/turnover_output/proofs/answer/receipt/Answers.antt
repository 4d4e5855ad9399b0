use native.Mathlib.Omega.{arith}
use Rattle.turnover_output.proofs.TextAtLaws.{text_more}
use Rattle.turnover_output.proofs.AnswerLaws.{length8}
use Rattle.turnover_output.specs.Answer.{receipt_text}
use Rattle.turnover_output.proofs.answer.receipt.Goals as goal

pub number-c-requires : goal.number-c-requires
number-c-requires c = omega (arith, length8 _ _ c.from.ensures c.ranges.news)

pub word-requires : goal.word-requires
word-requires c = omega (arith, length8 _ _ c.from.ensures c.ranges.news)

pub returns : goal.returns
unfolding receipt_text
returns c =
    let x = c.entered-a.ensures in
    let s = c.word-b.ensures in
    let z = c.number-c.ensures in
    let l = c.word.ensures in
    let e = c.from.ensures in
    record {
      text_at = rw (← e) (text_more (text_more (text_more x.text_at s) z) l);
      upper_bound = omega (arith, length8 _ _ e c.ranges.news, x.upper_bound, s.next, z.next, l.next);
    }
