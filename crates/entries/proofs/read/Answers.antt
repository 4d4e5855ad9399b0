use mathlib.Core.Path.{◌∙◌, sym}
use native.Mathlib.Omega.{arith}
use Rattle.entries.proofs.Laws.{well_made-length}
use Rattle.entries.proofs.read.Goals as goal

pub get-requires : goal.get-requires
get-requires c = let n = well_made-length c.args.s.now (sym c.well_made.ensures ∙ c.if-not-well_made.false) in omega arith

pub bounds-s-1 : goal.bounds-s-1
bounds-s-1 c = let n = well_made-length c.args.s.now (sym c.well_made.ensures ∙ c.if-not-well_made.false) in omega arith
