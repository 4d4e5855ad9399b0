use Rattle.station.specs.Image.{parse_station}
use Rattle.station.proofs.load.Goals as goal

pub returns : goal.returns
unfolding parse_station
returns c = cc
