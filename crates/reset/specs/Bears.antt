-- What an answer says of its step: which step an entry's record bears, what news it tells, and whose answer it is. Assumes nothing.
use Rattle.std.specs.Prelude.{◌≡◌, List, ◌∷◌}
use Rattle.reset.specs.Clock.{Clock}
use Rattle.reset.specs.State.{Item, message, State, station_at, link_at}
use Rattle.reset.specs.Steps.{Step, enter, send, recv, start, station_of_step, Entry, news_of, Answer, refused, entry, mode_after}

-- the record e of an entry that the step made in state s: its kind, station and peer, its station's phase, and the register number; a receipt's is that
-- of the message that it took, the first item of its link
abbrev pub Bears : {K : Clock} → State K → Step → Entry → Type 0
Bears s (enter i g) e = (e.kind ≡ 1) × (e.station ≡ i) × (e.peer ≡ 255) × (e.phase ≡ (station_at s i).phase) × (e.register ≡ g)
Bears s (send i j g) e = (e.kind ≡ 2) × (e.station ≡ i) × (e.peer ≡ j) × (e.phase ≡ (station_at s i).phase) × (e.register ≡ g)
Bears {K} s (recv i j) e =
    (e.kind ≡ 3) × (e.station ≡ i) × (e.peer ≡ j) × (e.phase ≡ (station_at s i).phase)
    × ((w : K.Load) × (q : List (Item K)) × (link_at s j i ≡ message w e.register ∷ q))
Bears s (start i) e = ⊥

-- the news that the entry tells: of a receipt how many of the other stations' counts grew at its station, from state s to the state after; of others none
abbrev pub Tells : {K : Clock} → State K → Step → Entry → State K → Type 0
Tells s (enter i g) e s' = e.news ≡ 0
Tells s (send i j g) e s' = e.news ≡ 0
Tells s (recv i j) e s' = e.news ≡ news_of i (station_at s i) (station_at s' i)
Tells s (start i) e s' = ⊥

-- an accepted step is answered for the station that took it
abbrev pub Taker : Step → Answer → Type 0
Taker p (refused k) = Unit {0}
Taker p (entry e) = e.station ≡ station_of_step p
Taker p (mode_after i m f) = i ≡ station_of_step p
