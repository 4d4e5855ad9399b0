-- What rest tells after a list of steps from an initial network. Assumes nothing.
use Rattle.std.specs.Prelude.{ℕ, ◌<◌, ◌≡◌, ◌↔◌, List, true, length}
use Rattle.reset.specs.Config.{Config, well_made, network_rules}
use Rattle.reset.specs.Clock.{vector}
use Rattle.reset.specs.Steps.{Step}
use Rattle.reset.specs.Network.{initial, log, run, stations_quiescent, quiescent}
use Rattle.causality.specs.HappenedBefore.{Accepted, accepted, entry_at, is_send, GoesWith}

-- every message that was sent has been received: each accepted send has the recv that goes with it
abbrev pub AllReceived : List Accepted → Type 0
AllReceived E = (x a b : ℕ) → x < length E → is_send a b (entry_at E x).step ≡ true → (y : ℕ) × GoesWith E x y

-- rest is yes exactly when every station is normal, all phases are equal and every message that was sent has been received
abbrev pub RestTells : Type 0
RestTells =
    (c : Config) → well_made c ≡ true → network_rules c ≡ true → (ps : List Step)
    → (quiescent c (run c (initial vector c) ps) ≡ true)
    ↔ ((stations_quiescent c (run c (initial vector c) ps) ≡ true) × AllReceived (accepted (log c (initial vector c) ps)))
