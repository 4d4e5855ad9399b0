use Rattle.turnover_input.proofs.KeptLaws.{kept_means}
use Rattle.turnover_input.proofs.line.Line.command.Goals as goal

pub returns : goal.returns
returns c = kept_means _ _ c.parse.result c.parse.ensures.means
