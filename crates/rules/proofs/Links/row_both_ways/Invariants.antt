use Prim.Native.Nat.{◌≤◌}
use mathlib.Core.Path.{◌≡◌}
use Rattle.codec.specs.Every.{every}
use Rattle.reset.specs.Config.{both_or_none}
use Rattle.rules.proofs.Links.row_both_ways.Given as goal

abbrev pub invariant-loop-j : goal.invariant-loop-j
invariant-loop-j l = (l.j ≤ 8) × (l.ok ≡ every l.j (both_or_none l.self.limits l.i))
