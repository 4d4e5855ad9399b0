use Prim.Native.Nat.{ℕ}
use mathlib.Core.Path.{◌≡◌}
use mathlib.Core.List.{List}
use lib.ListN.{length}
use Rattle.turnover_session.specs.Turnover.{SessionPasses}
use Rattle.turnover.proofs.run.Given as goal

abbrev pub invariant-loop : goal.invariant-loop
invariant-loop g l = (length l.bytes ≡ length l.initial.bytes) × (length l.out ≡ length l.initial.out) × ((input : List ℕ) × SessionPasses l.initial.session input l.session)
