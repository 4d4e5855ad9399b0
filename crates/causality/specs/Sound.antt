-- Demand 3 of document 01: what is claimed of every list of steps from an initial network. Assumes nothing.
use Rattle.std.specs.Prelude.{ℕ, ◌<◌, ◌≡◌, ◌↔◌, List, [], ◌∷◌, Bool, true, cond, eqb, get_or, length}
use Rattle.clock.specs.Timestamp.{Less}
use Rattle.reset.specs.Config.{Config, well_made, network_rules}
use Rattle.reset.specs.Clock.{vector}
use Rattle.reset.specs.State.{Item, message, reset_req, reset_done, State, link_at}
use Rattle.reset.specs.Steps.{Step, enter, send, recv, start, station_of_step, Answer, refused, entry, mode_after, step}
use Rattle.reset.specs.Network.{initial, Answered, log}
use Rattle.causality.specs.Plain.{Message, plain_initial, Told, told, plain_told, plain_after, fed}
use Rattle.causality.specs.HappenedBefore.{Accepted, accepted, entry_at, phase_of, timestamp_of, is_recv, GoesWith, HappenedBefore}

-- ---- the message that the network's own recv took: the first item of its link in the state before; none for another step
abbrev pub first_message : List (Item vector) → List Message
first_message [] = []
first_message (message v g ∷ q) = record { counts = v; register = g } ∷ []
first_message (reset_req ∷ q) = []
first_message (reset_done ∷ q) = []

abbrev pub taken : State vector → Step → List Message
taken s (enter i g) = []
taken s (send i j g) = []
taken s (recv i j) = first_message (link_at s j i)
taken s (start i) = []

-- of each accepted entry, in list order
abbrev pub with_taken : Answer → List Message → List (List Message) → List (List Message)
with_taken (refused k) m l = l
with_taken (mode_after i w p) m l = l
with_taken (entry e) m l = m ∷ l

abbrev pub takens : Config → State vector → List Step → List (List Message)
takens c s [] = []
takens c s (p ∷ ps) = with_taken (step c s p).answer (taken s p) (takens c (step c s p).after ps)

-- ---- 1. Each message received was sent earlier in the list, in the same phase, by the send that goes with its recv; its counts and register number are
-- that send's timestamp and register number.
abbrev pub sent_message : Accepted → Message
sent_message x = record { counts = x.entry.counts; register = x.entry.register }

abbrev pub ReceivedAsSent : List Accepted → List (List Message) → Type 0
ReceivedAsSent E T =
    (y a b : ℕ) → y < length E → is_recv a b (entry_at E y).step ≡ true
    → (x : ℕ) × (x < y) × GoesWith E x y × (phase_of E x ≡ phase_of E y) × (get_or T y [] ≡ sent_message (entry_at E x) ∷ [])

-- ---- 2. Of two accepted entries of one phase, the first precedes the second in happened-before exactly when its timestamp is less than the other's.
abbrev pub OrderedByTimestamp : List Accepted → Type 0
OrderedByTimestamp E =
    (x y : ℕ) → x < length E → y < length E → phase_of E x ≡ phase_of E y → HappenedBefore E x y ↔ Less (timestamp_of E x) (timestamp_of E y)

-- ---- 3. For every phase, its accepted entries alone, in list order and with their arguments, run on the plain network: each recv finds at its link's head
-- the message that the network's own recv took, and each entry takes the timestamp that its record bears.
-- what the network says of its entries of phase f: the timestamp of each record, and the message that its step took
abbrev pub told_of : ℕ → List Accepted → List (List Message) → List Told
told_of f [] T = []
told_of f (x ∷ E) [] = []
told_of f (x ∷ E) (m ∷ T) = cond (eqb x.entry.phase f) (told x.entry.counts m ∷ told_of f E T) (told_of f E T)

abbrev pub RunsPlain : List Answered → List (List Message) → Type 0
RunsPlain l T = (f : ℕ) → plain_told plain_initial (fed f l) ≡ told_of f (accepted l) T

-- ---- 4. When every station has left a phase, all links of that phase's plain network are empty.
-- a station's phase after a list is that in the answer to its last accepted step, 0 where it has none
-- an answer's phase, of a step that station i took or did not; else f
abbrev pub phase_in : Bool → Answer → ℕ → ℕ
phase_in taken (refused k) f = f
phase_in taken (entry e) f = cond taken e.phase f
phase_in taken (mode_after j m p) f = cond taken p f

abbrev pub phase_from : ℕ → ℕ → List Answered → ℕ
phase_from i f [] = f
phase_from i f (x ∷ l) = phase_from i (phase_in (eqb (station_of_step x.step) i) x.answer f) l

abbrev pub phase_after : ℕ → List Answered → ℕ
phase_after i l = phase_from i 0 l

-- every station below n has left phase f
abbrev pub AllLeft : ℕ → ℕ → List Answered → Type 0
AllLeft n f l = (i : ℕ) → i < n → f < phase_after i l

abbrev pub EmptyWhenLeft : ℕ → List Answered → Type 0
EmptyWhenLeft n l = (f : ℕ) → AllLeft n f l → (i j : ℕ) → (plain_after plain_initial (fed f l)).queue i j ≡ []

-- ---- the four together: of n stations, the steps with their answers, and the messages taken
pub record SoundLog (n : ℕ) (l : List Answered) (T : List (List Message)) : Type 0 where
  pub received_as_sent : ReceivedAsSent (accepted l) T
  pub ordered : OrderedByTimestamp (accepted l)
  pub runs_plain : RunsPlain l T
  pub empty_when_left : EmptyWhenLeft n l

-- a list of steps from the initial network
abbrev pub Sound : Config → List Step → Type 0
Sound c ps = SoundLog c.n (log c (initial vector c) ps) (takens c (initial vector c) ps)

-- demand 3: every list of steps, refused ones included, from the initial network of every header that setup accepts
abbrev pub Demand3 : Type 0
Demand3 = (c : Config) → well_made c ≡ true → network_rules c ≡ true → (ps : List Step) → Sound c ps
