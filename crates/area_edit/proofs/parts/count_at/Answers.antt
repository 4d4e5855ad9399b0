use Prim.Native.Nat.{◌+◌, ◌*◌}
use Rattle.area_edit.proofs.PartLaws.{count_byte}
use Rattle.area_edit.proofs.parts.count_at.Goals as goal

pub returns : goal.returns
returns c = let g = c.args in count_byte g.area.now (g.i * 8 + g.j) c.link_start.ensures.0
