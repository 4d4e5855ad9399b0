use mathlib.Core.Path.{refl, ap}
use mathlib.Core.Bool.{true, false}
use native.Mathlib.Omega.{arith}
use Rattle.reset.specs.Clock.{vector}
use Rattle.reset.specs.State.{Station}
use Rattle.station.specs.View.{mode_view}
use Rattle.reset_rules.proofs.SlotLaws.{once_mute, once-stand_by, once-normal}
use Rattle.reset_rules.proofs.turn_once.Goals as goal

pub returns-in-Mute : goal.returns-in-Mute
returns-in-Mute c =
    let e = ap mode_view c.in-Mute.is in
    (λ d i r. rw c.renew.ensures (once_mute d i _ true r e c.if-every_seen.ensures refl), omega (arith, ap (λ (x : Station vector). x.phase) c.renew.ensures))

pub returns-in-StandBy : goal.returns-in-StandBy
returns-in-StandBy c =
    let e = ap mode_view c.in-StandBy.is in
    (λ d i r. rw c.wake.ensures (once-stand_by d i _ true r e c.if-every_seen-2.ensures refl), omega (arith, ap (λ (x : Station vector). x.phase) c.wake.ensures))

pub returns-in-Normal : goal.returns-in-Normal
returns-in-Normal c =
    let e = ap mode_view c.in-Normal.is in
    (λ d i r. rw c.begin.ensures (once-normal d i _ true r e c.if-some_seen.ensures refl), omega (arith, ap (λ (x : Station vector). x.phase) c.begin.ensures))

pub returns-in_default : goal.returns-in_default
returns-in_default c = (λ d i r. (once_mute d i _ false r (ap mode_view c.in-Mute.is) c.if-every_seen.ensures refl), omega arith)

pub returns-in_default-2 : goal.returns-in_default-2
returns-in_default-2 c = (λ d i r. (once-stand_by d i _ false r (ap mode_view c.in-StandBy.is) c.if-every_seen-2.ensures refl), omega arith)

pub returns-in_default-3 : goal.returns-in_default-3
returns-in_default-3 c = (λ d i r. (once-normal d i _ false r (ap mode_view c.in-Normal.is) c.if-some_seen.ensures refl), omega arith)
