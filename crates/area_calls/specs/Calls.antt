-- What the calls on a state area answer and leave (document 01, "State area and host"): setup, the four steps, rest, and how many receipts are left until
-- it (document 02, CR 12). Assumes nothing.
use Rattle.std.specs.Prelude.{ℕ, List, cond, eqb, length}
use Rattle.codec.specs.Written.{Written, refused as refused_with, wrote}
use Rattle.header.specs.Header.{well_made_header}
use Rattle.reset.specs.Config.{Config, network_rules}
use Rattle.reset.specs.Clock.{vector}
use Rattle.reset.specs.Steps.{Step, Answer, refused, Outcome, step}
use Rattle.reset.specs.Network.{initial, quiescent}
use Rattle.reset.specs.Receipts.{receipts_to_rest}
use Rattle.rules.specs.Setup.{block_config}
use Rattle.area.specs.Layout.{image, config_at, state_at, test}

-- setup from a header block: an area of another length is 11, bytes that are no header block 1, a header that breaks a network rule 3;
-- else the area is the image of the initial network
unfoldable pub setup_on : List ℕ → List ℕ → Written
setup_on block a =
    cond (eqb (length a) 65536)
    (cond (well_made_header block)
    (cond (network_rules (block_config block)) (wrote (image (block_config block) (initial vector (block_config block)))) (refused_with 3 a))
    (refused_with 1 a))
    (refused_with 11 a)

-- a step's answer, and the area afterwards
pub record AreaStep : Type 0 where
  pub answer : Answer
  pub area : List ℕ

-- the outcome of a step in a state, as an area
abbrev pub imaged : Config → Outcome vector → AreaStep
imaged c o = record { answer = o.answer; area = image c o.after }

-- a step on an area: 2 where it is no image of a well-formed state; else the network's step, and the image of the state after
unfoldable pub step_on : Step → List ℕ → AreaStep
step_on p a = cond (test a) (imaged (config_at a) (step (config_at a) (state_at a) p)) (record { answer = refused 2; area = a })

-- rest (quiescent): yes, no, or a refusal
pub data RestAnswer : Type 0 where
  yes no : RestAnswer
  rest_refused : ℕ → RestAnswer

unfoldable pub rest_on : List ℕ → RestAnswer
rest_on a = cond (test a) (cond (quiescent (config_at a) (state_at a)) RestAnswer.yes RestAnswer.no) (rest_refused 2)

-- receipts to rest: how many are left, or a refusal
pub data ReceiptsAnswer : Type 0 where
  receipts_left receipts_refused : ℕ → ReceiptsAnswer

unfoldable pub receipts_on : List ℕ → ReceiptsAnswer
receipts_on a = cond (test a) (receipts_left (receipts_to_rest (config_at a) (state_at a))) (receipts_refused 2)
