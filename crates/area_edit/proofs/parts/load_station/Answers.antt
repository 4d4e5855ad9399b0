use Rattle.area_edit.proofs.PartLaws.{station_part}
use Rattle.area_edit.proofs.parts.load_station.Goals as goal

pub returns : goal.returns
returns c =
    let g = c.args in
    rw (station_part g.area.now g.i c.station_start-o.ensures.0) at c.load.ensures
