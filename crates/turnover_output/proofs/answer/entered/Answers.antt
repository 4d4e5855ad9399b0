use native.Mathlib.Omega.{arith}
use Rattle.turnover_output.proofs.TextAtLaws.{text_more}
use Rattle.turnover_output.proofs.AnswerLaws.{first_of}
use Rattle.turnover_output.specs.Answer.{entered}
use Rattle.turnover_output.proofs.answer.entered.Goals as goal

pub returns-clause-text_at : goal.returns-clause-text_at
unfolding entered
returns-clause-text_at c =
    let m = rw c.from.ensures at c.min.ensures in
    let t = text_more c.opening-a.ensures.text_at c.counted.ensures.text_at in
    rw (first_of c.args.n c.min.result c.args.counts (omega arith) m) at t
