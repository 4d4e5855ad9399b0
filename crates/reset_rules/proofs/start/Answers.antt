use mathlib.Core.Path.{ap, ◌∙◌}
use native.Mathlib.Omega.{arith}
use Rattle.reset.specs.Clock.{vector}
use Rattle.reset.specs.State.{Station}
use Rattle.station.specs.View.{station_view}
use Rattle.std.proofs.Common.{Some, None}
use Rattle.link.specs.declared.Control.TheVariants.{ResetReq}
use Rattle.reset_rules.specs.Turn.{started}
use Rattle.reset_rules.specs.Slots.{slot_all, asked}
use Rattle.reset_rules.proofs.SlotLaws.{slots_started, promised}
use Rattle.reset_rules.proofs.start.Goals as goal

pub returns : goal.returns
returns c =
    let a = c.args in
    let x = station_view a.s in
    promised c.turn_all.result a.limits a.i (asked x) (λ d. started d a.i x) (λ d. slots_started d a.i x)
    (λ d k e. c.turn_all.ensures d k e ∙ ap (λ (y : Station vector). slot_all d k (record { station = y; first = Some ResetReq; second = None })) c.begin.ensures)

pub turn_all-requires : goal.turn_all-requires
turn_all-requires c = omega (arith, ap (λ (x : Station vector). x.phase) c.begin.ensures)
