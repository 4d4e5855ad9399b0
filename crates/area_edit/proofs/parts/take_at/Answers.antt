use Prim.Native.Nat.{◌+◌, ◌*◌}
use mathlib.Core.Path.{◌∙◌, ap}
use native.Mathlib.Omega.{arith}
use lib.ListN.{length-take, length-drop}
use Rattle.link.specs.Image.{image_link}
use Rattle.area_edit.proofs.PartLaws.{link_part, link_back}
use Rattle.area_edit.proofs.parts.take_at.Goals as goal

pub pop-requires : goal.pop-requires
pop-requires c =
    let e = link_part c.args.area.now (c.args.i * 8 + c.args.j) c.link_start-o.ensures.0 in
    (simp (length-take, length-drop) (omega arith), rw e c.requires.3, rw e c.requires.4)

pub returns : goal.returns
returns c = λ d s x q p h.
    link_back d s _ c.requires.1 p _ c.requires.2 q c.link_start-o.ensures.0 (λ e. c.pop.ensures x q (e ∙ ap image_link h))
