use mathlib.Core.Path.{refl, ◌∙◌, sym}
use Rattle.header.specs.Header.{read_header}
use Rattle.header.proofs.Laws.{well_made-length}
use Rattle.header.proofs.read.Goals as goal

pub returns-then-not-well_made : goal.returns-then-not-well_made
unfolding read_header
returns-then-not-well_made c = rw (sym c.well_made.ensures ∙ c.if-not-well_made.true) refl

pub load-requires : goal.load-requires
load-requires c = well_made-length _ (sym c.well_made.ensures ∙ c.if-not-well_made.false)

pub returns : goal.returns
unfolding read_header
returns c = rw (sym c.well_made.ensures ∙ c.if-not-well_made.false) (cc)
