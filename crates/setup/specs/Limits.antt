-- What the records of the initial network read of a configuration. Assumes nothing.
use Rattle.std.specs.Prelude.{ℕ, List, []}
use Rattle.codec.specs.Rows.{rows, upto}
use Rattle.reset.specs.Config.{Config}
use Rattle.reset.specs.Clock.{vector}
use Rattle.reset.specs.State.{Station}
use Rattle.reset.specs.Network.{initial_station}
use Rattle.station.specs.Image.{image_station}

-- the limits alone
abbrev pub of_limits : List (List ℕ) → Config
of_limits m = record { n = 0; t = 0; allowances = []; limits = m }

-- the initial record of station i
unfoldable pub initial_of : List (List ℕ) → ℕ → Station vector
initial_of m i = initial_station vector (of_limits m) i

-- the bytes of the first k of them
unfoldable pub initial_bytes : List (List ℕ) → ℕ → List ℕ
initial_bytes m k = rows image_station (upto k (initial_of m))
