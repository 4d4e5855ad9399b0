use mathlib.Core.Path.{◌∙◌}
use Rattle.turnover_input.specs.Fields.{numbers_of}
use Rattle.turnover_input.proofs.fields.read.Goals as goal

pub returns-in_err-a : goal.returns-in_err-a
unfolding numbers_of
returns-in_err-a c = rw (← c.number.ensures, c.in_err-a.was) c.from_residual.ensures

pub returns : goal.returns
unfolding numbers_of
returns c = c.second.ensures ∙ rw (← c.number.ensures, c.in_ok-a.was)
