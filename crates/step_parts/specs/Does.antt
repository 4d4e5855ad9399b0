-- A step over an area that passed its test. Assumes nothing.
use Rattle.std.specs.Prelude.{ℕ, ◌≡◌, List, Result}
use Rattle.refusals.specs.declared.Refusal.{Refusal}
use Rattle.reset.specs.Steps.{Step, step}
use Rattle.area.specs.Layout.{image, config_at, state_at}
use Rattle.step_parts.specs.Answers.{stepped_of, step_view}
use Rattle.step_parts.specs.declared.answer.Accepted.{Accepted}

-- r is the network's answer to step p in the state of area a, and b the image of the state after
pub record Does (p : Step) (a : List ℕ) (r : Result Accepted Refusal) (b : List ℕ) : Type 0 where
  pub answer : step_view r ≡ stepped_of (step (config_at a) (state_at a) p).answer
  pub area : b ≡ image (config_at a) (step (config_at a) (state_at a) p).after
