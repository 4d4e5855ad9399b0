-- What stations and links hold (document 01, "What a station holds"), and how a state is read and changed. Assumes nothing.
use Rattle.std.specs.Prelude.{ℕ, zero, suc, List, [], ◌∷◌, ◌++◌, Bool, false, cond, get_or, replicate}
use Rattle.codec.specs.Put.{put}
use Rattle.clock.specs.Timestamp.{zeros}
use Rattle.reset.specs.Config.{Config, neighbours}
use Rattle.reset.specs.Clock.{Clock}

-- A station's mode.
pub data Mode : Type 0 where
  normal mute stand_by : Mode

-- What a link holds: a message (document 01: note), which is its sender's timestamp as the clock carries it and a register number; reset_req; reset_done.
pub data Item (K : Clock) : Type 0 where
  message : K.Load → ℕ → Item K
  reset_req reset_done : Item K

-- A station's record: its counts, as the clock keeps them; mode; phase; its own entries, and the messages sent on each link, in this phase; and for each
-- neighbour "req seen" and "done seen".
pub record Station (K : Clock) : Type 0 where
  pub time : K.Time
  pub mode : Mode
  pub phase : ℕ
  pub own : ℕ
  pub sent : List ℕ
  pub reqs : List Bool
  pub dones : List Bool

-- Eight stations, and eight rows of eight links: row i has the links out of station i, each with its first item first.
pub record State (K : Clock) : Type 0 where
  pub stations : List (Station K)
  pub links : List (List (List (Item K)))

-- no neighbour's mark seen
unfoldable pub none_seen : List Bool
none_seen = replicate 8 false

-- the record of a station that has done nothing and has no neighbour
abbrev pub blank_station : {K : Clock} → Station K
blank_station {K} = record { time = K.start; mode = normal; phase = 0; own = 0; sent = zeros; reqs = none_seen; dones = none_seen }

-- ---- readings
-- the record of station i
unfoldable pub station_at : {K : Clock} → State K → ℕ → Station K
station_at s i = get_or s.stations i blank_station

-- the items on the link from i to j
unfoldable pub link_at : {K : Clock} → State K → ℕ → ℕ → List (Item K)
link_at s i j = get_or (get_or s.links i []) j []

-- req seen, done seen from j; messages sent to j
abbrev pub req_seen : {K : Clock} → Station K → ℕ → Bool
req_seen x j = get_or x.reqs j false

abbrev pub done_seen : {K : Clock} → Station K → ℕ → Bool
done_seen x j = get_or x.dones j false

abbrev pub sent_to : {K : Clock} → Station K → ℕ → ℕ
sent_to x j = get_or x.sent j 0

-- ---- changes
-- a record with one field replaced
abbrev pub with_time : {K : Clock} → K.Time → Station K → Station K
with_time t x = record { time = t; mode = x.mode; phase = x.phase; own = x.own; sent = x.sent; reqs = x.reqs; dones = x.dones }

abbrev pub with_mode : {K : Clock} → Mode → Station K → Station K
with_mode m x = record { time = x.time; mode = m; phase = x.phase; own = x.own; sent = x.sent; reqs = x.reqs; dones = x.dones }

abbrev pub with_phase : {K : Clock} → ℕ → Station K → Station K
with_phase p x = record { time = x.time; mode = x.mode; phase = p; own = x.own; sent = x.sent; reqs = x.reqs; dones = x.dones }

abbrev pub with_own : {K : Clock} → ℕ → Station K → Station K
with_own n x = record { time = x.time; mode = x.mode; phase = x.phase; own = n; sent = x.sent; reqs = x.reqs; dones = x.dones }

abbrev pub with_sent : {K : Clock} → List ℕ → Station K → Station K
with_sent l x = record { time = x.time; mode = x.mode; phase = x.phase; own = x.own; sent = l; reqs = x.reqs; dones = x.dones }

abbrev pub with_reqs : {K : Clock} → List Bool → Station K → Station K
with_reqs l x = record { time = x.time; mode = x.mode; phase = x.phase; own = x.own; sent = x.sent; reqs = l; dones = x.dones }

abbrev pub with_dones : {K : Clock} → List Bool → Station K → Station K
with_dones l x = record { time = x.time; mode = x.mode; phase = x.phase; own = x.own; sent = x.sent; reqs = x.reqs; dones = l }

-- station i's record replaced by x
unfoldable pub set_station : {K : Clock} → State K → ℕ → Station K → State K
set_station s i x = record { stations = put blank_station s.stations i x; links = s.links }

-- the link from i to j holds q instead
unfoldable pub set_link : {K : Clock} → State K → ℕ → ℕ → List (Item K) → State K
set_link s i j q = record { stations = s.stations; links = put [] s.links i (put [] (get_or s.links i []) j q) }

-- x put on the link from i to j, behind what it holds
abbrev pub put_on : {K : Clock} → State K → ℕ → ℕ → Item K → State K
put_on s i j x = set_link s i j (link_at s i j ++ (x ∷ []))

-- the same, where there is such a link
unfoldable pub put_linked : {K : Clock} → Config → State K → ℕ → ℕ → Item K → State K
put_linked c s i j x = cond (neighbours c i j) (put_on s i j x) s

-- x put on the links from i to its neighbours below k, in rising order
unfoldable pub put_first : {K : Clock} → ℕ → Config → State K → ℕ → Item K → State K
put_first zero c s i x = s
put_first (suc k) c s i x = put_linked c (put_first k c s i x) i k x

-- x put on every link out of i, in rising order of neighbour
unfoldable pub put_on_all : {K : Clock} → Config → State K → ℕ → Item K → State K
put_on_all c s i x = put_first 8 c s i x
