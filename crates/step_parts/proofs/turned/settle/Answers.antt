use Rattle.step_parts.proofs.TurnedLaws.{mode_code_lem, room-set}
use Rattle.step_parts.proofs.turned.settle.Goals as goal

pub put_controls-requires : goal.put_controls-requires
put_controls-requires c =
    let (l, il, r) = c.requires in
    (il, room-set _ _ r (c.put_station.ensures r.config r.state r.is))

pub returns : goal.returns
returns c =
    record { answer = rw (c.in_mode.ensures, mode_code_lem); area = λ d s l p. c.put_controls.ensures d _ l (c.put_station.ensures d s p) }
