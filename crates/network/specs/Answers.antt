-- What a step's call gives, as a definition: its answer and the area afterwards. Assumes nothing.
use Rattle.std.specs.Prelude.{ℕ, ◌≡◌, List, Result}
use Rattle.refusals.specs.declared.Refusal.{Refusal}
use Rattle.reset.specs.Steps.{Step}
use Rattle.step_parts.specs.Answers.{stepped_of, step_view}
use Rattle.step_parts.specs.declared.answer.Accepted.{Accepted}
use Rattle.area_calls.specs.Calls.{step_on}

-- r answers step p on area a, and b is the area afterwards
pub record Steps (p : Step) (a : List ℕ) (r : Result Accepted Refusal) (b : List ℕ) : Type 0 where
  pub answer : step_view r ≡ stepped_of (step_on p a).answer
  pub area : b ≡ (step_on p a).area
