use Rattle.station.specs.View.{station_view}
use Rattle.reset_rules.specs.Turn.{turned}
use Rattle.reset_rules.specs.Slots.{fresh}
use Rattle.reset_rules.proofs.SlotLaws.{slots_turned, promised}
use Rattle.reset_rules.proofs.turn.Goals as goal

pub returns : goal.returns
returns c =
    let a = c.args in
    let x = station_view a.s in
    promised c.turn_all.result a.limits a.i (fresh x) (λ d. turned d a.i x) (λ d. slots_turned d a.i x) c.turn_all.ensures
