use Prim.Native.Nat.{◌<◌}
use mathlib.Core.Path.{◌≡◌}
use lib.ListN.{drop}
use Rattle.turnover_input.specs.Fields.{more}
use Rattle.turnover_input.proofs.fields.digits.Given as goal

abbrev pub invariant-loop-i : goal.invariant-loop-i
invariant-loop-i l = (l.v < 4294967296) × (more l.v (drop l.i l.line) ≡ more l.start l.line)
