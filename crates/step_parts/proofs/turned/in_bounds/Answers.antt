use Prim.Native.Nat.{◌+◌}
use mathlib.Core.Path.{◌≡◌, refl, ◌∙◌, ap}
use mathlib.Core.List.{[], ◌++◌}
use mathlib.Core.Bool.{Bool, ◌&&◌}
use native.Mathlib.Omega.{arith}
use lib.Dec.{leb}
use lib.ListN.{length, get_or, length-append}
use mir.Val.{bool_byte}
use Rattle.std.specs.Prelude.{Option, Some, None}
use Rattle.std.specs.Option.{is_some}
use Rattle.link.specs.declared.Control.{Control}
use Rattle.reset_rules.specs.Slots.{control_of}
use Rattle.step_parts.specs.Room.{room_bytes, in_bounds_after}
use Rattle.step_parts.proofs.turned.in_bounds.Goals as goal

-- one more where there is a control item
weight : (slot : Option Control) → bool_byte (is_some slot) ≡ length (control_of slot)
weight None = refl
weight (Some control) = refl

pub returns : goal.returns
unfolding in_bounds_after
returns c =
    let g = c.args in
    let t = g.t in
    let p = rw c.is_some.ensures at c.from.ensures ∙ weight t.first in
    let q = rw c.is_some-2.ensures at c.from-2.ensures ∙ weight t.second in
    let e : c.from.result + c.from-2.result ≡ length (control_of t.first ++ control_of t.second) = omega (arith, length-append (control_of t.first) (control_of t.second), p, q) in
    ap (λ (b : Bool). leb t.station.phase 999999 && b) (c.room.ensures ∙ ap (room_bytes g.area.now (get_or g.limits g.i []) g.i) e)
