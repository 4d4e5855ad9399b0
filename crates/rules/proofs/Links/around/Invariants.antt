use Prim.Native.Nat.{◌*◌, ◌≤◌}
use mathlib.Core.Path.{◌≡◌}
use Rattle.codec.specs.Every.{sum}
use Rattle.reset.specs.Config.{between}
use Rattle.rules.proofs.Links.around.Given as goal

abbrev pub invariant-loop-j : goal.invariant-loop-j
invariant-loop-j l = (l.j ≤ 8) × (l.s ≡ sum l.j (between l.self.limits l.i)) × (l.s ≤ 510 * l.j)
