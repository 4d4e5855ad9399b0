use Rattle.turnover_commands.proofs.Laws.{in_stage}
use Rattle.turnover_commands.proofs.state.State.obey.Goals as goal

pub returns-in-Stepping : goal.returns-in-Stepping
returns-in-Stepping g c = in_stage _ _ c.in-Stepping.is _ (rw c.in-Some.is (c.stepping.ensures.by_index _))
