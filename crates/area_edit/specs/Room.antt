-- What the changes of an area in place ask of it. Assumes nothing.
use Rattle.std.specs.Prelude.{ℕ, ◌+◌, ◌≤◌, ◌<◌, ◌≡◌, List, true, length}
use Rattle.reset.specs.Config.{Config, neighbours}
use Rattle.reset.specs.Clock.{vector}
use Rattle.reset.specs.State.{State, link_at}
use Rattle.area.specs.Layout.{image}

-- the area is the image of some state, in which every link out of i has room for k items more; m is the table of limits
pub record Roomy (a : List ℕ) (m : List (List ℕ)) (i k : ℕ) : Type 0 where
  pub config : Config
  pub state : State vector
  pub is : a ≡ image config state
  pub limits : config.limits ≡ m
  pub room : (j : ℕ) → j < 8 → neighbours config i j ≡ true → length (link_at state i j) + k ≤ 34
