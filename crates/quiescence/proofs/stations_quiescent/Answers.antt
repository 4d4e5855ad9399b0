use mathlib.Core.Path.{◌≡◌, ◌∙◌, sym, ap}
use mathlib.Core.Bool.{Bool, ◌&&◌}
use native.Mathlib.Omega.{arith}
use lib.Dec.{eqb}
use Rattle.codec.proofs.EveryLaws.{every_none, every_more, every_fails}
use Rattle.area.specs.Layout.{state_at}
use Rattle.quiescence.proofs.Laws.{settled, settles, settled_is}
use Rattle.quiescence.proofs.stations_quiescent.Goals as goal
use Rattle.quiescence.proofs.stations_quiescent.Goals.{After-eq}

-- station i was looked at
looked : (c : goal.After-eq) → settled (state_at c.args.area.now) c.loop-i.i ≡ (c.eq.result && eqb c.load_station-x.result.phase c.load_station-start.result.phase)
looked c =
    settled_is c.args.area.now c.loop-i.i c.load_station-x.result c.load_station-start.result (omega arith) c.load_station-x.ensures c.load_station-start.ensures
    ∙ ap (λ (b : Bool). b && eqb c.load_station-x.result.phase c.load_station-start.result.phase) (sym c.eq.ensures)

pub loop-i-init : goal.loop-i-init
loop-i-init c = (omega arith, every_none _)

pub returns-then-not-eq-x : goal.returns-then-not-eq-x
returns-then-not-eq-x c =
    let s = state_at c.args.area.now in
    sym (settles c.args.n s ∙ every_fails c.args.n (settled s) c.loop-i.i (omega arith) (looked (goal.at.returns-then-not-eq-x c).After-eq ∙ c.if-not-eq-x.true))

pub loop-i-preserved : goal.loop-i-preserved
loop-i-preserved c = (omega arith, every_more _ _ c.loop-i.invariant.1 (looked (goal.at.loop-i-preserved c).After-eq ∙ c.if-not-eq-x.false))

pub returns : goal.returns
returns c =
    let e : c.loop-i.i ≡ c.args.n = omega arith in
    sym (settles c.args.n (state_at c.args.area.now) ∙ (rw e at c.loop-i.invariant.1))
