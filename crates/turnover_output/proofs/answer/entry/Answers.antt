use native.Mathlib.Omega.{arith}
use Rattle.turnover_output.proofs.TextAtLaws.{text_more}
use Rattle.turnover_output.specs.Answer.{entry_text}
use Rattle.turnover_output.proofs.answer.entry.Goals as goal

pub returns : goal.returns
unfolding entry_text
returns c =
    let a = c.entered-a.ensures in
    let b = c.word.ensures in
    record { text_at = text_more a.text_at b; upper_bound = omega (arith, a.upper_bound, b.next) }
