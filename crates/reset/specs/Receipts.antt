-- How long a quiet network takes (document 02, CR 12): how many receipts empty the links, and that it is so many in whichever order. Both statements hold:
-- `exact_receipts` in proofs/ExactReceipts, `controls_told` in proofs/Taken. Assumes nothing.
use Rattle.std.specs.Prelude.{ℕ, suc, ◌+◌, ◌*◌, ◌-◌, ◌≤◌, ◌<◌, ◌≡◌, ◌↔◌, List, [], ◌∷◌, Bool, true, false, cond, ◌&&◌, eqb}
use Rattle.codec.specs.Every.{sum, greatest}
use Rattle.reset.specs.Config.{Config, neighbours, well_made, network_rules}
use Rattle.reset.specs.Clock.{Clock, vector}
use Rattle.reset.specs.State.{Mode, normal, mute, stand_by, Item, message, reset_req, reset_done, Station, State, station_at, link_at, req_seen, done_seen}
use Rattle.reset.specs.Steps.{Step, enter, send, recv, start, Answer, refused, entry, mode_after, step}
use Rattle.reset.specs.Network.{initial, Answered, log, run, links_empty}

-- ---- the greatest target
-- 1 for a mute station, else 0; 1 for a mark that is seen, else 0
abbrev pub muted : Mode → ℕ
muted normal = 0
muted mute = 1
muted stand_by = 0

abbrev pub bit : Bool → ℕ
bit true = 1
bit false = 0

-- the target phase (document 02: aim): a station's phase, or one more when mute
abbrev pub target : {K : Clock} → Station K → ℕ
target x = x.phase + muted x.mode

unfoldable pub greatest_target : {K : Clock} → Config → State K → ℕ
greatest_target c s = greatest c.n (λ (i : ℕ). target (station_at s i))

-- ---- messages under way (document 02: notes)
-- how many of the items are messages
abbrev pub messages : {K : Clock} → List (Item K) → ℕ
messages [] = 0
messages (message w g ∷ q) = suc (messages q)
messages (reset_req ∷ q) = messages q
messages (reset_done ∷ q) = messages q

-- on all links
unfoldable pub under_way : {K : Clock} → State K → ℕ
under_way s = sum 8 (λ (i : ℕ). sum 8 (λ (j : ℕ). messages (link_at s i j)))

-- ---- control items that a station has received from its neighbour j, read off its record (`ControlsTold`)
-- reset_req: one in each phase that it has left, and the one of this phase where it is seen
abbrev pub reqs_taken : {K : Clock} → Station K → ℕ → ℕ
reqs_taken x j = x.phase + bit (req_seen x j)

-- reset_done, and one for phase 0 that nobody sends: one for each phase before its target, and the target's where it is seen
abbrev pub dones_taken : {K : Clock} → Station K → ℕ → ℕ
dones_taken x j = target x + bit (done_seen x j)

-- both, without that one
abbrev pub controls_taken : {K : Clock} → Station K → ℕ → ℕ
controls_taken x j = reqs_taken x j + dones_taken x j - 1

-- ---- the number of receipts that empty the links: the messages under way, and for each link twice the greatest target less the control items received
-- what station j has still to receive from i beside messages, where g is the greatest target
abbrev pub controls_left : {K : Clock} → Config → State K → ℕ → ℕ → ℕ → ℕ
controls_left c s g j i = cond (neighbours c i j) (2 * g - controls_taken (station_at s j) i) 0

unfoldable pub receipts_to_rest : {K : Clock} → Config → State K → ℕ
receipts_to_rest c s = under_way s + sum 8 (λ (j : ℕ). sum 8 (controls_left c s (greatest_target c s) j))

-- ---- the statement
-- receipts alone
abbrev pub Receipts : List Step → Type 0
Receipts [] = Unit {0}
Receipts (enter i g ∷ ps) = ⊥
Receipts (send i j g ∷ ps) = ⊥
Receipts (recv i j ∷ ps) = Receipts ps
Receipts (start i ∷ ps) = ⊥

-- an answer is no refusal; how many of a list of steps were accepted
abbrev pub is_accepted : Answer → Bool
is_accepted (refused k) = false
is_accepted (entry e) = true
is_accepted (mode_after i m p) = true

abbrev pub accepted_in : List Answered → ℕ
accepted_in [] = 0
accepted_in (a ∷ l) = bit (is_accepted a.answer) + accepted_in l

-- some receipt would be accepted
abbrev pub CanReceive : {K : Clock} → Config → State K → Type 0
CanReceive c s = (i : ℕ) × (j : ℕ) × (is_accepted (step c s (recv i j)).answer ≡ true)

-- From state s on, a list qs of receipts: no more are accepted than the number; while there are fewer, another can be; where none can be, there are just
-- so many; the links are empty exactly when there are so many, and each station is then normal in the phase of the greatest target.
pub record Settling {K : Clock} (c : Config) (s : State K) (qs : List Step) : Type 0 where
  pub at_most : accepted_in (log c s qs) ≤ receipts_to_rest c s
  pub not_stuck : accepted_in (log c s qs) < receipts_to_rest c s → CanReceive c (run c s qs)
  pub no_shorter : (CanReceive c (run c s qs) → ⊥) → accepted_in (log c s qs) ≡ receipts_to_rest c s
  pub empties : (links_empty (run c s qs) ≡ true) ↔ (accepted_in (log c s qs) ≡ receipts_to_rest c s)
  pub settled : accepted_in (log c s qs) ≡ receipts_to_rest c s → (i : ℕ) → i < c.n
      → ((station_at (run c s qs) i).mode ≡ normal) × ((station_at (run c s qs) i).phase ≡ greatest_target c s)

-- for every header that setup accepts, whatever list of steps the initial network has taken and whatever receipts follow
abbrev pub ExactReceipts : Type 0
ExactReceipts =
    (c : Config) → well_made c ≡ true → network_rules c ≡ true → (ps qs : List Step) → Receipts qs → Settling c (run c (initial vector c) ps) qs

-- ---- what is read off a record is what was received
-- 1 where the step is a receipt by j from i that took a control item: it was answered with a mode
abbrev pub control_of : ℕ → ℕ → Step → Answer → ℕ
control_of i j (enter a g) w = 0
control_of i j (send a b g) w = 0
control_of i j (recv a b) (refused k) = 0
control_of i j (recv a b) (entry e) = 0
control_of i j (recv a b) (mode_after k m p) = bit (eqb a j && eqb b i)
control_of i j (start a) w = 0

-- how many such there are in a list of steps
abbrev pub controls_in : ℕ → ℕ → List Answered → ℕ
controls_in i j [] = 0
controls_in i j (a ∷ l) = control_of i j a.step a.answer + controls_in i j l

-- after every list of steps from an initial network, for the link from i to j
abbrev pub ControlsTold : Type 0
ControlsTold =
    (c : Config) → well_made c ≡ true → network_rules c ≡ true → (ps : List Step) (i j : ℕ) → neighbours c i j ≡ true
    → controls_taken (station_at (run c (initial vector c) ps) j) i ≡ controls_in i j (log c (initial vector c) ps)
