use Prim.Native.Nat.{◌≤◌}
use mathlib.Core.Path.{◌≡◌}
use mathlib.Core.Bool.{true}
use Rattle.codec.specs.Every.{every}
use Rattle.area.specs.Layout.{state_at}
use Rattle.quiescence.proofs.Laws.{settled}
use Rattle.quiescence.proofs.stations_quiescent.Given as goal

abbrev pub invariant-loop-i : goal.invariant-loop-i
invariant-loop-i l = (l.i ≤ l.n) × (every l.i (settled (state_at l.area)) ≡ true)
