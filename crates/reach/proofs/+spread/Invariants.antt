use Rattle.reset.specs.Reach.{unseen}
use Rattle.reach.proofs.+spread.Given as goal

abbrev pub decreases-spread : goal.decreases-spread
decreases-spread l = unseen l.seen
