use mathlib.Core.Path.{◌≡◌}
use native.Mathlib.Omega.{arith}
use Rattle.turnover_output.proofs.TextAtLaws.{text_more}
use Rattle.turnover_output.proofs.AnswerLaws.{length8}
use Rattle.turnover_output.specs.Answer.{setup_text}
use Rattle.turnover_output.proofs.answer.setup_refused.Goals as goal

pub number-b-requires : goal.number-b-requires
number-b-requires c = omega (arith, length8 c.args.refusal c.from.result (omega (arith, c.from.ensures)) (omega arith))

pub word-requires : goal.word-requires
word-requires c = omega (arith, length8 c.args.refusal c.from.result (omega (arith, c.from.ensures)) (omega arith))

pub returns : goal.returns
unfolding setup_text
returns c =
    let a = c.word-a.ensures in
    let b = c.number-b.ensures in
    let d = c.word.ensures in
    let e : c.from.result ≡ c.args.refusal = omega (arith, c.from.ensures) in
    record { text_at = rw e at (text_more (text_more a b) d); upper_bound = omega (arith, length8 _ _ e (omega arith), a.next, b.next, d.next) }
