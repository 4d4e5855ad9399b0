use Rattle.turnover_output.proofs.TextAtLaws.{text_more}
use Rattle.turnover_output.specs.Answer.{mode_text}
use Rattle.turnover_output.proofs.answer.mode.Goals as goal

pub returns-clause-text_at : goal.returns-clause-text_at
unfolding mode_text
returns-clause-text_at c =
    rw (← c.mode_word.ensures.is) (text_more (text_more (text_more c.opening-a.ensures.text_at c.word-b.ensures) c.word-c.ensures) c.word.ensures)
