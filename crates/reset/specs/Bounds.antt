-- No bound is ever met from an initial network (document 02, CR 9). It holds: `never_beyond` in proofs/NeverBeyond. Assumes nothing.
use Rattle.std.specs.Prelude.{◌≡◌, ◌≢◌, List, true}
use Rattle.reset.specs.Config.{Config, well_made, network_rules}
use Rattle.reset.specs.Clock.{vector}
use Rattle.reset.specs.State.{State}
use Rattle.reset.specs.Steps.{in_bounds, Step, refused, step}
use Rattle.reset.specs.Network.{initial, run}

-- step p in state s meets no bound: it is not refused with 2, and after it every item, count and phase is within its bound
pub record Bounded (c : Config) (s : State vector) (p : Step) : Type 0 where
  pub not_two : (step c s p).answer ≢ refused 2
  pub within : in_bounds c (step c s p).after ≡ true

-- for every header that setup accepts, whatever list of steps the initial network has taken and whichever step comes next
abbrev pub NeverBeyond : Type 0
NeverBeyond = (c : Config) → well_made c ≡ true → network_rules c ≡ true → (ps : List Step) (p : Step) → Bounded c (run c (initial vector c) ps) p
