-- The initial network, lists of steps from it, and when a network is quiescent. Assumes nothing.
use Rattle.std.specs.Prelude.{ℕ, List, [], ◌∷◌, Bool, ◌&&◌, eqb, length, replicate}
use Rattle.codec.specs.Every.{every}
use Rattle.codec.specs.Rows.{upto}
use Rattle.clock.specs.Timestamp.{zeros}
use Rattle.reset.specs.Config.{Config, neighbours}
use Rattle.reset.specs.Clock.{Clock}
use Rattle.reset.specs.State.{normal, Station, State, none_seen, station_at, link_at}
use Rattle.reset.specs.Steps.{Step, Answer, step, is_normal}

-- initial (document 01: fresh): normal, phase 0, counts 0, no req seen, every neighbour's done seen
abbrev pub initial_station : (K : Clock) → Config → ℕ → Station K
initial_station K c i = record { time = K.start; mode = normal; phase = 0; own = 0; sent = zeros; reqs = none_seen; dones = upto 8 (neighbours c i) }

-- links empty
unfoldable pub initial : (K : Clock) → Config → State K
initial K c = record { stations = upto 8 (initial_station K c); links = replicate 8 (replicate 8 []) }

-- a step, and how it was answered
pub record Answered : Type 0 where
  pub step : Step
  pub answer : Answer

-- each step of a list is taken from the state that the one before left: the steps with their answers, and the state after
abbrev pub log : {K : Clock} → Config → State K → List Step → List Answered
log c s [] = []
log c s (p ∷ ps) = record { step = p; answer = (step c s p).answer } ∷ log c (step c s p).after ps

abbrev pub run : {K : Clock} → Config → State K → List Step → State K
run c s [] = s
run c s (p ∷ ps) = run c (step c s p).after ps

-- ---- quiescent (document 01: rest; document 02, CR 5)
-- every station is normal and all phases are equal
unfoldable pub stations_quiescent : {K : Clock} → Config → State K → Bool
stations_quiescent c s =
    every c.n (λ (i : ℕ). is_normal (station_at s i).mode) && every c.n (λ (i : ℕ). eqb (station_at s i).phase (station_at s 0).phase)

-- the link from i to j is empty
abbrev pub link_empty : {K : Clock} → State K → ℕ → ℕ → Bool
link_empty s i j = eqb (length (link_at s i j)) 0

-- no link holds an item
unfoldable pub links_empty : {K : Clock} → State K → Bool
links_empty s = every 8 (λ (i : ℕ). every 8 (link_empty s i))

-- rest asks for both
unfoldable pub quiescent : {K : Clock} → Config → State K → Bool
quiescent c s = stations_quiescent c s && links_empty s
