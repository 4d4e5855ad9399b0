use Rattle.area_edit.proofs.PartLaws.{station_back}
use Rattle.area_edit.proofs.parts.put_station.Goals as goal

pub returns : goal.returns
returns c = λ d s p.
    station_back d s _ c.requires.1 p _ c.station_start-o.ensures.0 c.store.ensures
