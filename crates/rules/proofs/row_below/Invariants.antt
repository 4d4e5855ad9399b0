use Prim.Native.Nat.{◌≤◌}
use mathlib.Core.Path.{◌≡◌}
use mathlib.Core.Bool.{true}
use Rattle.codec.specs.Every.{every}
use Rattle.reset.specs.Config.{limit_below}
use Rattle.rules.proofs.row_below.Given as goal

abbrev pub invariant-loop-j : goal.invariant-loop-j
invariant-loop-j l = (l.j ≤ 8) × (every l.j (limit_below l.n l.limits l.i) ≡ true)
