use Prim.Native.Nat.{◌+◌, ◌*◌}
use Rattle.area_edit.proofs.PartLaws.{link_part}
use Rattle.area_edit.proofs.parts.first_at.Goals as goal

pub returns : goal.returns
returns c =
    let g = c.args in
    rw (link_part g.area.now (g.i * 8 + g.j) c.link_start-o.ensures.0) at c.first.ensures
