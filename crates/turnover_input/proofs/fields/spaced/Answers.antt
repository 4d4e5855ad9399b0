use mathlib.Core.Path.{◌∙◌, sym}
use Rattle.turnover_input.proofs.StartLaws.{begins}
use Rattle.turnover_input.proofs.FieldLaws.{item_bare, item_on}
use Rattle.turnover_input.proofs.fields.spaced.Goals as goal

pub returns-in_err-strip_prefix : goal.returns-in_err-strip_prefix
returns-in_err-strip_prefix c = rw c.from_residual.ensures (item_bare _ c.requires (sym (begins _ _) ∙ c.in_err-strip_prefix.ensures.cases))

pub returns : goal.returns
returns c = c.number.ensures ∙ rw c.in_ok-strip_prefix.ensures.cases.1 (item_on _ (sym (begins _ _) ∙ c.in_ok-strip_prefix.ensures.cases.0))
