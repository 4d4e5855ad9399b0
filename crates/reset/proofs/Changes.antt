-- What a step changes, told in one statement, so that later theorems never open a step: it is refused and changes nothing; or it makes no entry, and moves no
-- message; or it makes an entry, and at most one message moves. Assumes nothing.
use Prim.Native.Nat.{ℕ, suc, ◌<◌}
use mathlib.Core.Path.{◌≡◌}
use mathlib.Core.Logic.{◌≢◌}
use mathlib.Core.List.{List, [], ◌∷◌, ◌++◌}
use mathlib.Core.Bool.{true, cond, ◌&&◌}
use lib.Dec.{eqb}
use Rattle.reset.specs.Config.{Config, neighbours}
use Rattle.reset.specs.Clock.{Clock}
use Rattle.reset.specs.State.{Mode, Item, message, reset_req, reset_done, Station, State, station_at, link_at}
use Rattle.reset.specs.Receipts.{reqs_taken}
use Rattle.reset.specs.Steps.{Step, enter, send, recv, start, Entry, Answer, refused, entry, mode_after}

-- ---- messages under way
-- A message with a phase.
pub record Tagged (K : Clock) : Type 0 where
  pub phase : ℕ
  pub load : K.Load
  pub register : ℕ

-- the messages of q, each with the phase that it was sent in: the number of reset_req that lay before it, of which r are taken already
abbrev pub tags : {K : Clock} → ℕ → List (Item K) → List (Tagged K)
tags r [] = []
tags r (message w g ∷ q) = record { phase = r; load = w; register = g } ∷ tags r q
tags r (reset_req ∷ q) = tags (suc r) q
tags r (reset_done ∷ q) = tags r q

-- the messages on the link from i to j, the first first
abbrev pub waiting : {K : Clock} → State K → ℕ → ℕ → List (Tagged K)
waiting s i j = tags (reqs_taken (station_at s j) i) (link_at s i j)

-- the message that a step puts on the link from a to b, with its sender's phase; none where it puts none
abbrev pub sent_on : {K : Clock} → State K → ℕ → ℕ → Step → List (Tagged K)
sent_on s a b (enter i g) = []
sent_on {K} s a b (send i j g) =
    cond (eqb i a && eqb j b) (record { phase = (station_at s i).phase; load = K.load i j (K.tick i (station_at s i).time); register = g } ∷ []) []
sent_on s a b (recv i j) = []
sent_on s a b (start i) = []

-- the message that a step takes off the link from a to b, with its receiver's phase; none where it takes none
abbrev pub first_with : {K : Clock} → ℕ → List (Item K) → List (Tagged K)
first_with p [] = []
first_with p (message w g ∷ q) = record { phase = p; load = w; register = g } ∷ []
first_with p (reset_req ∷ q) = []
first_with p (reset_done ∷ q) = []

abbrev pub got_on : {K : Clock} → State K → ℕ → ℕ → Step → List (Tagged K)
got_on s a b (enter i g) = []
got_on s a b (send i j g) = []
got_on s a b (recv i j) = cond (eqb j a && eqb i b) (first_with (station_at s i).phase (link_at s j i)) []
got_on s a b (start i) = []

-- ---- no entry
-- A station's record before and after: phase and time stay, or the phase is a later one and the time is that of its start.
pub data Move {K : Clock} (x x' : Station K) : Type 0 where
  stays : x'.phase ≡ x.phase → x'.time ≡ x.time → Move x x'
  renews : x.phase < x'.phase → x'.time ≡ K.start → Move x x'

-- A step answered with station i's mode m and phase p after it.
pub record Quiet {K : Clock} (c : Config) (s : State K) (i : ℕ) (m : Mode) (p : ℕ) (s' : State K) : Type 0 where
  pub mode_is : (station_at s' i).mode ≡ m
  pub phase_is : (station_at s' i).phase ≡ p
  pub others : (k : ℕ) → k ≢ i → station_at s' k ≡ station_at s k
  pub moves : (k : ℕ) → Move (station_at s k) (station_at s' k)
  pub unmoved : (a b : ℕ) → neighbours c a b ≡ true → waiting s' a b ≡ waiting s a b

-- ---- an entry e, after which its station holds the time t
-- of enter i g
pub record OwnEntry {K : Clock} (s : State K) (i g : ℕ) (e : Entry) (t : K.Time) : Type 0 where
  pub kind_is : e.kind ≡ 1
  pub station_is : e.station ≡ i
  pub peer_is : e.peer ≡ 255
  pub register_is : e.register ≡ g
  pub time_is : t ≡ K.tick i (station_at s i).time

-- of send i j g
pub record SentEntry {K : Clock} (c : Config) (s : State K) (i j g : ℕ) (e : Entry) (t : K.Time) : Type 0 where
  pub kind_is : e.kind ≡ 2
  pub station_is : e.station ≡ i
  pub peer_is : e.peer ≡ j
  pub register_is : e.register ≡ g
  pub linked : neighbours c i j ≡ true
  pub time_is : t ≡ K.sent i j (K.tick i (station_at s i).time)

-- of recv i j, which takes the message with load w
pub record GotEntry {K : Clock} (c : Config) (s : State K) (i j : ℕ) (e : Entry) (t : K.Time) : Type 0 where
  pub kind_is : e.kind ≡ 3
  pub station_is : e.station ≡ i
  pub peer_is : e.peer ≡ j
  pub linked : neighbours c i j ≡ true
  pub w : K.Load
  pub q : List (Item K)
  pub first_is : link_at s j i ≡ message w e.register ∷ q
  pub time_is : t ≡ K.take i j w (station_at s i).time

abbrev pub How : {K : Clock} → Config → State K → Step → Entry → K.Time → Type 0
How c s (enter i g) e t = OwnEntry s i g e t
How c s (send i j g) e t = SentEntry c s i j g e t
How c s (recv i j) e t = GotEntry c s i j e t
How c s (start i) e t = ⊥

-- A step answered with the entry e.
pub record Enters {K : Clock} (c : Config) (s : State K) (p : Step) (e : Entry) (s' : State K) : Type 0 where
  pub station_in : e.station < c.n
  pub phase_is : e.phase ≡ (station_at s e.station).phase
  pub phase_same : (station_at s' e.station).phase ≡ (station_at s e.station).phase
  pub counts-are : e.counts ≡ K.stamp e.station (station_at s' e.station).time
  pub others : (k : ℕ) → k ≢ e.station → station_at s' k ≡ station_at s k
  pub how : How c s p e (station_at s' e.station).time
  pub log : (a b : ℕ) → neighbours c a b ≡ true → waiting s a b ++ sent_on s a b p ≡ got_on s a b p ++ waiting s' a b

-- ---- a step, by its answer
abbrev pub Summary : {K : Clock} → Config → State K → Step → Answer → State K → Type 0
Summary c s p (refused k) s' = s' ≡ s
Summary c s p (mode_after i m f) s' = Quiet c s i m f s'
Summary c s p (entry e) s' = Enters c s p e s'
