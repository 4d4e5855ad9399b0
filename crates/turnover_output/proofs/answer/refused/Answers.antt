use mathlib.Core.Path.{◌≡◌}
use native.Mathlib.Omega.{arith}
use Rattle.turnover_output.proofs.TextAtLaws.{text_more}
use Rattle.turnover_output.proofs.AnswerLaws.{length64, length8}
use Rattle.turnover_output.specs.Answer.{refused_text}
use Rattle.turnover_output.proofs.answer.refused.Goals as goal

pub number-a-requires : goal.number-a-requires
number-a-requires c = omega (arith, length64 _ c.ranges.number)

pub word-b-requires : goal.word-b-requires
word-b-requires c = omega (arith, length64 _ c.ranges.number)

pub number-c-requires : goal.number-c-requires
number-c-requires c = omega (arith, length64 _ c.ranges.number, length8 c.args.refusal c.from.result (omega (arith, c.from.ensures)) (omega arith))

pub word-requires : goal.word-requires
word-requires c = omega (arith, length64 _ c.ranges.number, length8 c.args.refusal c.from.result (omega (arith, c.from.ensures)) (omega arith))

pub returns : goal.returns
unfolding refused_text
returns c =
    let x = c.number-a.ensures in
    let y = c.word-b.ensures in
    let z = c.number-c.ensures in
    let l = c.word.ensures in
    let e : c.from.result ≡ c.args.refusal = omega (arith, c.from.ensures) in
    record {
      text_at = rw e at (text_more (text_more (text_more x y) z) l);
      upper_bound = omega (arith, length64 _ c.ranges.number, length8 _ _ e (omega arith), x.next, y.next, z.next, l.next);
    }
