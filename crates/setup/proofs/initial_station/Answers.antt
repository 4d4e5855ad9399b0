use Rattle.reset.specs.Reach.{limit, linked}
use Rattle.reset.specs.Config.{neighbours}
use Rattle.reset.specs.State.{none_seen}
use Rattle.clock.specs.Timestamp.{zeros}
use Rattle.setup.specs.Limits.{initial_of}
use Rattle.setup.proofs.initial_station.Goals as goal

pub returns : goal.returns
unfolding initial_of neighbours linked limit zeros none_seen
returns c = rw c.neighbours.ensures
