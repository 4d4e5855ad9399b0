-- The code's station as the network's record of one. Assumes nothing.
use Rattle.reset.specs.Clock.{vector}
use Rattle.reset.specs.State.{Mode, normal, mute, stand_by, Station}
use Rattle.station.specs.declared.Mode.{Mode as CodeMode}
use Rattle.station.specs.declared.Mode.TheVariants.{Normal, Mute, StandBy}
use Rattle.station.specs.declared.Station.{Station as CodeStation}

abbrev pub mode_view : CodeMode → Mode
mode_view Normal = normal
mode_view Mute = mute
mode_view StandBy = stand_by

-- the counts are the time of the vector clock; the other fields are as they are
abbrev pub station_view : CodeStation → Station vector
station_view s =
    record { time = s.counts; mode = mode_view s.mode; phase = s.phase; own = s.own; sent = s.sent; reqs = s.reqs; dones = s.dones }
