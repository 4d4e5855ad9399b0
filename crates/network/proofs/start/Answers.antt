use mathlib.Core.Path.{ap}
use mathlib.Core.Bool.{not}
use Rattle.network.proofs.Laws.{passes, refused, stepped}
use Rattle.network.proofs.start.Goals as goal

pub returns-then-not-well_formed : goal.returns-then-not-well_formed
returns-then-not-well_formed c = refused _ c.well_formed-2.ensures (ap not c.if-not-well_formed.true)

pub start-requires : goal.start-requires
start-requires c = passes _ c.well_formed-2.ensures (ap not c.if-not-well_formed.false)

pub returns : goal.returns
returns c = stepped _ c.well_formed-2.ensures (ap not c.if-not-well_formed.false) c.start.ensures
