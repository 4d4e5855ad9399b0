use Prim.Native.Nat.{◌≤◌}
use mathlib.Core.Path.{◌≡◌}
use mathlib.Core.Bool.{true}
use Rattle.codec.specs.Every.{every}
use Rattle.quiescence.proofs.Laws.{idle}
use Rattle.quiescence.proofs.links_empty.Given as goal

abbrev pub invariant-loop-k : goal.invariant-loop-k
invariant-loop-k l = (l.k ≤ 64) × (every l.k (idle l.area) ≡ true)
