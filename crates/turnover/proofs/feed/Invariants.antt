use Prim.Native.Nat.{ℕ}
use mathlib.Core.Path.{◌≡◌}
use mathlib.Core.List.{List}
use lib.ListN.{length}
use Rattle.turnover_session.specs.Turnover.{SessionGoes}
use Rattle.turnover.proofs.feed.Given as goal

abbrev pub invariant-bytes : goal.invariant-bytes
invariant-bytes g l = (length l.out ≡ 65536) × ((text : List ℕ) × SessionGoes l.initial.session l.bytes text l.session l.rest)

abbrev pub decreases-bytes : goal.decreases-bytes
decreases-bytes g l = length l.rest
