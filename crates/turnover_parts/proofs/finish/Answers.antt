use mathlib.Core.Path.{sym, ◌∙◌}
use mathlib.Core.Bool.{true≢false}
use Rattle.turnover_commands.specs.Run.{standing_of}
use Rattle.turnover_output.proofs.TextAtLaws.{text_more}
use Rattle.turnover_session.proofs.Laws.{end_none, end_line}
use Rattle.turnover_parts.proofs.finish.Goals as goal

pub returns-then-is_empty-clause-by_index : goal.returns-then-is_empty-clause-by_index
returns-then-is_empty-clause-by_index g c = λ t k. rw ((c.is_empty.ensures t k).0 c.if-is_empty.true, end_none) c.close.ensures.text

pub returns-clause-by_index : goal.returns-clause-by_index
returns-clause-by_index g c =
    λ t k. rw (end_line (standing_of c.args.session.now.state) _ _ c.obey-end.ensures.stands t (λ z. true≢false (sym ((c.is_empty.ensures t k).1 z) ∙ c.if-is_empty.false)) (c.command-command.ensures t k).0)
    (text_more c.obey-end.ensures.text c.close-2.ensures.text)
