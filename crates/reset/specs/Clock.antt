-- A clock: what a station keeps of time, what a message carries of it, what the steps do to both, and which of them are in range. The network is written
-- over any clock, for its rules never look into a timestamp; the network of document 01 is that of the vector clock, below. Assumes nothing.
use Rattle.std.specs.Prelude.{ℕ, List, Bool, cond, ◌&&◌, eqb, leb, get_or, length}
use Rattle.codec.specs.Every.{every}
use Rattle.clock.specs.Timestamp.{zeros, tick, raised}
use Rattle.reset.specs.Config.{Config, is_station}

pub record Clock : Type 1 where
  -- what a station holds, and what a message carries
  pub Time : Type 0
  pub Load : Type 0
  -- at the start of a phase
  pub start : Time
  -- station i's own count +1
  pub tick : ℕ → Time → Time
  -- what station i's message to j carries, and what station i holds once it is sent; both from its time after the +1
  pub load : ℕ → ℕ → Time → Load
  pub sent : ℕ → ℕ → Time → Time
  -- station i takes a message of station j: its counts are raised, its own count +1
  pub take : ℕ → ℕ → Load → Time → Time
  -- the eight counts of station i, which an entry bears as its timestamp (document 01: stamp)
  pub stamp : ℕ → Time → List ℕ
  -- in range in a well-formed state: what station i holds, which is the start for i of n and above; what a message carries
  pub time_fits : Config → ℕ → Time → Bool
  pub load_fits : Config → Load → Bool

-- ---- counts in range
-- b for a station, 0 for n and above
abbrev pub of_station : Config → ℕ → ℕ → ℕ
of_station c i b = cond (is_station c i) b 0

-- eight counts, each at most b, and 0 for stations n and above
abbrev pub count_fits : Config → ℕ → List ℕ → ℕ → Bool
count_fits c b v k = leb (get_or v k 0) (of_station c k b)

unfoldable pub timestamp_fits : Config → ℕ → List ℕ → Bool
timestamp_fits c b v = eqb (length v) 8 && every 8 (count_fits c b v)

-- The vector clock: a station holds its eight counts, a message carries the sender's, and they are the timestamp. Each count is at most t.
abbrev pub vector : Clock
vector =
    record {
      Time = List ℕ;
      Load = List ℕ;
      start = zeros;
      tick = tick;
      load = λ i j v. v;
      sent = λ i j v. v;
      take = λ i j w v. raised i v w;
      stamp = λ i v. v;
      time_fits = λ c i v. timestamp_fits c (of_station c i c.t) v;
      load_fits = λ c v. timestamp_fits c c.t v;
    }
