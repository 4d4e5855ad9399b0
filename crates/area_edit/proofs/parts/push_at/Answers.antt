use Prim.Native.Nat.{◌+◌, ◌*◌}
use native.Mathlib.Omega.{arith}
use lib.ListN.{length-take, length-drop}
use Rattle.reset.specs.State.{link_at}
use Rattle.area_edit.proofs.PartLaws.{link_part, link_back}
use Rattle.area_edit.proofs.parts.push_at.Goals as goal

pub push-requires : goal.push-requires
push-requires c =
    let e = link_part c.args.area.now (c.args.i * 8 + c.args.j) c.link_start-o.ensures.0 in
    (simp (length-take, length-drop) (omega arith), rw e c.requires.3)

pub returns : goal.returns
returns c = λ d s p.
    link_back d s _ c.requires.1 p _ c.requires.2 _ c.link_start-o.ensures.0 (c.push.ensures (link_at s c.args.i c.args.j))
