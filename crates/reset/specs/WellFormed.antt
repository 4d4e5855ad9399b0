-- Well formed (document 01, "State area and host"): what every state area must hold. Each part is a test of its own. Assumes nothing.
use Rattle.std.specs.Prelude.{ℕ, ◌≡◌, List, [], ◌∷◌, Bool, true, not, ◌&&◌, ◌||◌, eqb, leb, get_or, length}
use Rattle.codec.specs.Every.{every}
use Rattle.clock.specs.Range.{last_phase}
use Rattle.reset.specs.Config.{Config, is_station, neighbours, limit_at, allowance_at, places, well_made, network_rules}
use Rattle.reset.specs.Clock.{Clock, of_station}
use Rattle.reset.specs.State.{Item, message, reset_req, reset_done, Station, State, station_at, link_at, req_seen, done_seen, sent_to}
use Rattle.reset.specs.Steps.{Step, enter, send, recv, start, is_normal}

-- a register number is at most 4,294,967,295
abbrev pub register_fits : ℕ → Bool
register_fits g = leb g 4294967295

-- ---- the record of station i. For i of n and above every bound is 0, so that the record is the blank one
-- normal, mute or stand-by
abbrev pub mode_fits : {K : Clock} → Config → ℕ → Station K → Bool
mode_fits c i x = is_station c i || is_normal x.mode

-- phase 0 to 999,999
abbrev pub phase_fits : {K : Clock} → Config → ℕ → Station K → Bool
phase_fits c i x = leb x.phase (of_station c i last_phase)

-- own entries within the allowance
abbrev pub own_fits : {K : Clock} → Config → ℕ → Station K → Bool
own_fits c i x = leb x.own (allowance_at c x.phase i)

-- messages sent within limits, so none to a non-neighbour
abbrev pub sent_fits_to : {K : Clock} → Config → ℕ → Station K → ℕ → Bool
sent_fits_to c i x j = leb (sent_to x j) (limit_at c x.phase i j)

unfoldable pub sent_fits : {K : Clock} → Config → ℕ → Station K → Bool
sent_fits c i x = eqb (length x.sent) 8 && every 8 (sent_fits_to c i x)

-- neither req nor done marked for a non-neighbour
abbrev pub marks_fit_from : {K : Clock} → Config → ℕ → Station K → ℕ → Bool
marks_fit_from c i x j = neighbours c i j || (not (req_seen x j) && not (done_seen x j))

unfoldable pub marks_fit : {K : Clock} → Config → ℕ → Station K → Bool
marks_fit c i x = eqb (length x.reqs) 8 && (eqb (length x.dones) 8 && every 8 (marks_fit_from c i x))

unfoldable pub station_fits : {K : Clock} → Config → ℕ → Station K → Bool
station_fits {K} c i x = K.time_fits c i x.time && (mode_fits c i x && (phase_fits c i x && (own_fits c i x && (sent_fits c i x && marks_fit c i x))))

-- ---- the link from i to j
-- what a message carries, and its register number, in range
abbrev pub item_fits : {K : Clock} → Config → Item K → Bool
item_fits {K} c (message w g) = K.load_fits c w && register_fits g
item_fits c reset_req = true
item_fits c reset_done = true

-- item k of q in range
abbrev pub item_fits_at : {K : Clock} → Config → List (Item K) → ℕ → Bool
item_fits_at c q k = item_fits c (get_or q k reset_req)

-- no more items than it has places, each in range
unfoldable pub link_fits : {K : Clock} → Config → ℕ → ℕ → List (Item K) → Bool
link_fits c i j q = leb (length q) (places c i j) && every (length q) (item_fits_at c q)

-- ---- all of it
-- eight stations, and eight rows of eight links
abbrev pub row_long : {K : Clock} → State K → ℕ → Bool
row_long s i = eqb (length (get_or s.links i [])) 8

unfoldable pub shape_fits : {K : Clock} → State K → Bool
shape_fits s = eqb (length s.stations) 8 && (eqb (length s.links) 8 && every 8 (row_long s))

-- the parts of a state in range
abbrev pub station_fits_at : {K : Clock} → Config → State K → ℕ → Bool
station_fits_at c s i = station_fits c i (station_at s i)

abbrev pub link_fits_at : {K : Clock} → Config → State K → ℕ → ℕ → Bool
link_fits_at c s i j = link_fits c i j (link_at s i j)

-- a header that setup accepts, and every part in range
unfoldable pub well_formed : {K : Clock} → Config → State K → Bool
well_formed c s =
    (well_made c && network_rules c)
    && (shape_fits s && (every 8 (station_fits_at c s) && every 8 (λ (i : ℕ). every 8 (link_fits_at c s i))))

-- a step's register number is one that a message can hold
abbrev pub step_fits : Step → Bool
step_fits (enter i g) = register_fits g
step_fits (send i j g) = register_fits g
step_fits (recv i j) = true
step_fits (start i) = true

-- a list of steps whose register numbers fit
abbrev pub StepsFit : List Step → Type 0
StepsFit [] = Unit {0}
StepsFit (p ∷ ps) = (step_fits p ≡ true) × StepsFit ps
