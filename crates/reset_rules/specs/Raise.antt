-- A station's counts raised. Assumes nothing.
use Rattle.std.specs.Prelude.{ℕ, List}
use Rattle.clock.specs.Timestamp.{raised}
use Rattle.station.specs.declared.Station.{Station}

-- the record s of station i, its counts raised by those of a message
abbrev pub raised_by : ℕ → List ℕ → Station → Station
raised_by i counts s =
    record { counts = raised i s.counts counts; sent = s.sent; reqs = s.reqs; dones = s.dones; phase = s.phase; own = s.own; mode = s.mode }
