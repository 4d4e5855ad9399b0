use mathlib.Core.Path.{◌∙◌, ap}
use native.Mathlib.Omega.{arith}
use lib.ListN.{length-append}
use Rattle.area_edit.proofs.ControlLaws.{less-room, room_after}
use Rattle.reset_rules.specs.Slots.{control_of}
use Rattle.reset_rules.proofs.TurnLaws.{put_items_lem}
use Rattle.area.specs.Layout.{image}
use Rattle.area_edit.proofs.controls.put_controls.Goals as goal

pub put_control-requires : goal.put_control-requires
put_control-requires c = (c.requires.0, less-room _ _ (omega (arith, length-append (control_of c.args.first) (control_of c.args.second))) c.requires.1)

pub put_control-requires-2 : goal.put_control-requires-2
put_control-requires-2 c =
    let r = c.requires.1 in
    (c.requires.0, room_after _ (control_of c.args.first) (control_of c.args.second) r (c.put_control.ensures r.config r.state r.limits r.is))

pub returns : goal.returns
returns c = λ d s r p.
    let g = c.args in
    c.put_control-2.ensures d _ r (c.put_control.ensures d s r p) ∙ ap (image d) (put_items_lem d _ s (control_of g.first) (control_of g.second))
