-- Demand 3, rest, that no step is answered with 2, and how many receipts there are until rest, over areas: each step is lent the area as the step before
-- left it. Assumes nothing.
use Rattle.std.specs.Prelude.{ℕ, ◌≤◌, ◌<◌, ◌≡◌, ◌↔◌, ◌≢◌, List, [], ◌∷◌, true}
use Rattle.codec.specs.Num.{AreBytes}
use Rattle.reset.specs.Config.{Config}
use Rattle.reset.specs.State.{normal, station_at}
use Rattle.reset.specs.Steps.{Step, recv, refused}
use Rattle.reset.specs.Network.{Answered, stations_quiescent, links_empty}
use Rattle.reset.specs.Receipts.{greatest_target, Receipts, is_accepted, accepted_in}
use Rattle.reset.specs.WellFormed.{StepsFit}
use Rattle.rules.specs.Setup.{block_config}
use Rattle.causality.specs.Plain.{Message}
use Rattle.causality.specs.HappenedBefore.{accepted}
use Rattle.causality.specs.Sound.{taken, with_taken, SoundLog}
use Rattle.causality.specs.Rest.{AllReceived}
use Rattle.area.specs.Layout.{state_at}
use Rattle.area_calls.specs.Calls.{setup_on, step_on, yes, rest_on, receipts_left, receipts_on}

-- the steps of a list with their answers, from an area on
abbrev pub log_on : List ℕ → List Step → List Answered
log_on a [] = []
log_on a (p ∷ ps) = record { step = p; answer = (step_on p a).answer } ∷ log_on (step_on p a).area ps

-- of each accepted entry the message that its step took: the first item of its link in the area before
abbrev pub takens_on : List ℕ → List Step → List (List Message)
takens_on a [] = []
takens_on a (p ∷ ps) = with_taken (step_on p a).answer (taken (state_at a) p) (takens_on (step_on p a).area ps)

-- ---- demand 3: for every header block and area that setup accepts and every list of steps whose register numbers fit four bytes, the run is sound
abbrev pub Demand3 : Type 0
Demand3 =
    (block a : List ℕ) → AreBytes block → (setup_on block a).answer ≡ 0 → (ps : List Step) → StepsFit ps
    → SoundLog (block_config block).n (log_on (setup_on block a).buffer ps) (takens_on (setup_on block a).buffer ps)

-- ---- rest: after such a list it is yes exactly when every station is normal, all phases are equal and every message that was sent has been received
-- the area after a list of steps
abbrev pub run_on : List ℕ → List Step → List ℕ
run_on a [] = a
run_on a (p ∷ ps) = run_on (step_on p a).area ps

abbrev pub RestTells : Type 0
RestTells =
    (block a : List ℕ) → AreBytes block → (setup_on block a).answer ≡ 0 → (ps : List Step) → StepsFit ps
    → (rest_on (run_on (setup_on block a).buffer ps) ≡ yes)
    ↔ ((stations_quiescent (block_config block) (state_at (run_on (setup_on block a).buffer ps)) ≡ true) × AllReceived (accepted (log_on (setup_on block a).buffer ps)))

-- ---- after a setup that is accepted, no step in any list is answered with 2: not the next one, p, whatever list was before it
abbrev pub NeverTwo : Type 0
NeverTwo =
    (block a : List ℕ) → AreBytes block → (setup_on block a).answer ≡ 0 → (ps : List Step) → StepsFit ps
    → (p : Step) → (step_on p (run_on (setup_on block a).buffer ps)).answer ≢ refused 2

-- ---- receipts alone, a list qs of them from the area a of a network of configuration c on (document 02, CR 12)
-- some receipt would be accepted
abbrev pub CanReceiveOn : List ℕ → Type 0
CanReceiveOn a = (i : ℕ) × (j : ℕ) × (is_accepted (step_on (recv i j) a).answer ≡ true)

-- The call tells how many are left: no more are accepted; while there are fewer, another can be; where none can be, there are just so many; the links are
-- empty, and rest is yes, exactly when there are so many, and each station is then normal in the phase of the greatest target.
pub record SettlingOn (c : Config) (a : List ℕ) (qs : List Step) : Type 0 where
  pub left : ℕ
  pub told : receipts_on a ≡ receipts_left left
  pub at_most : accepted_in (log_on a qs) ≤ left
  pub not_stuck : accepted_in (log_on a qs) < left → CanReceiveOn (run_on a qs)
  pub no_shorter : (CanReceiveOn (run_on a qs) → ⊥) → accepted_in (log_on a qs) ≡ left
  pub empties : (links_empty (state_at (run_on a qs)) ≡ true) ↔ (accepted_in (log_on a qs) ≡ left)
  pub rests : (rest_on (run_on a qs) ≡ yes) ↔ (accepted_in (log_on a qs) ≡ left)
  pub settled : accepted_in (log_on a qs) ≡ left → (i : ℕ) → i < c.n
      → ((station_at (state_at (run_on a qs)) i).mode ≡ normal) × ((station_at (state_at (run_on a qs)) i).phase ≡ greatest_target c (state_at a))

-- after a setup that is accepted, whatever list of steps was taken and whatever receipts follow
abbrev pub ExactReceipts : Type 0
ExactReceipts =
    (block a : List ℕ) → AreBytes block → (setup_on block a).answer ≡ 0 → (ps qs : List Step) → StepsFit ps → Receipts qs
    → SettlingOn (block_config block) (run_on (setup_on block a).buffer ps) qs
