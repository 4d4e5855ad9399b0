use mathlib.Core.Path.{◌≡◌, ◌∙◌, sym}
use mathlib.Core.Bool.{true}
use native.Mathlib.Omega.{arith}
use Rattle.area.specs.Layout.{test}
use Rattle.area.proofs.Exact.{tested}
use Rattle.area_calls.specs.Calls.{rest_on}
use Rattle.quiescence.proofs.Laws.{n_small, rest_is}
use Rattle.quiescence.proofs.rest.Goals as goal
use Rattle.quiescence.proofs.rest.Goals.{Else-not-well_formed}

-- the area passed its test
passed : (c : goal.Else-not-well_formed) → test c.args.area.now ≡ true
passed c = sym c.well_formed-2.ensures ∙ c.if-not-well_formed.false

pub returns-then-not-well_formed : goal.returns-then-not-well_formed
unfolding rest_on
returns-then-not-well_formed c = rw (sym c.well_formed-2.ensures ∙ c.if-not-well_formed.true)

pub stations_quiescent-requires : goal.stations_quiescent-requires
stations_quiescent-requires c =
    let p = passed (goal.at.stations_quiescent-requires c).Else-not-well_formed in
    ((tested _ p).long, n_small _ p c.load-h.result c.load-h.ensures)

pub returns-then-stations_quiescent : goal.returns-then-stations_quiescent
returns-then-stations_quiescent c =
    rest_is _ (passed (goal.at.returns-then-stations_quiescent c).Else-not-well_formed) _ c.load-h.ensures _ (rw (sym c.stations_quiescent.ensures ∙ c.if-stations_quiescent.true) (sym c.links_empty.ensures))

pub returns-else-stations_quiescent : goal.returns-else-stations_quiescent
returns-else-stations_quiescent c =
    rest_is _ (passed (goal.at.returns-else-stations_quiescent c).Else-not-well_formed) _ c.load-h.ensures _ (rw (← c.stations_quiescent.ensures, c.if-stations_quiescent.false))

pub slice_bounds-load-end : goal.slice_bounds-load-end
slice_bounds-load-end c = omega (arith, (tested _ (passed (goal.at.slice_bounds-load-end c).Else-not-well_formed)).long)

pub links_empty-requires : goal.links_empty-requires
links_empty-requires c = (tested _ (passed (goal.at.links_empty-requires c).Else-not-well_formed)).long
