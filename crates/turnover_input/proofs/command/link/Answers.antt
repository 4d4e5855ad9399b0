use mathlib.Core.Path.{◌∙◌}
use Rattle.turnover_input.specs.Text.{default_limit}
use Rattle.turnover_input.proofs.command.link.Goals as goal

pub returns-in-Two : goal.returns-in-Two
unfolding default_limit
returns-in-Two c = c.limited.ensures ∙ rw (← c.read.ensures, c.in_ok-read.was, c.in-Two.is)
