-- A step's call by the test of its area. Assumes nothing.
use Prim.Native.Nat.{ℕ}
use mathlib.Core.Path.{◌≡◌, sym, ◌∙◌}
use mathlib.Core.List.{List}
use mathlib.Core.Bool.{Bool, true, false, not}
use borrow.Author.Tests.{not-true, not-false}
use Rattle.reset.specs.Steps.{Step}
use Rattle.area.specs.Layout.{test}
use Rattle.step_parts.specs.Does.{Does}
use Rattle.std.specs.Prelude.{Result, Err}
use Rattle.refusals.specs.declared.Refusal.{Refusal}
use Rattle.refusals.specs.declared.Refusal.TheVariants.{IllFormedState}
use Rattle.step_parts.specs.declared.answer.Accepted.{Accepted}
use Rattle.area_calls.specs.Calls.{step_on}
use Rattle.network.specs.Answers.{Steps}

-- a step over an area that passed its test is the call
pub done : (p : Step) (a : List ℕ) (r : Result Accepted Refusal) (d : List ℕ) → test a ≡ true → Does p a r d → Steps p a r d
unfolding step_on
done p a r d h f = record { answer = rw h f.answer; area = rw h f.area }

-- b is what the code's test of area a gave
module _ (a : List ℕ) {b : Bool} (e : b ≡ test a) where
  pub passes : not b ≡ false → test a ≡ true
  passes h = sym e ∙ not-false b h

  pub refused : {p : Step} → not b ≡ true → Steps p a (Err IllFormedState) a
  unfolding step_on
  refused h = let z : test a ≡ false = sym e ∙ not-true b h in record { answer = rw z; area = rw z }

  pub stepped : {p : Step} {r : Result Accepted Refusal} {d : List ℕ} → not b ≡ false → Does p a r d → Steps p a r d
  stepped h f = done _ a _ _ (passes h) f
