use Prim.Native.Nat.{◌≤◌}
use mathlib.Core.Path.{◌≡◌}
use mathlib.Core.Bool.{not}
use Rattle.codec.specs.Every.{every}
use Rattle.clock.specs.Order.{no_greater_at}
use Rattle.clock.proofs.compare.Given as goal

abbrev pub invariant-loop-k : goal.invariant-loop-k
invariant-loop-k l = (l.k ≤ 8) × (not l.less ≡ every l.k (no_greater_at l.b l.a)) × (not l.greater ≡ every l.k (no_greater_at l.a l.b))
