use Prim.Native.Nat.{◌*◌, ◌≤◌}
use mathlib.Core.Path.{◌≡◌}
use lib.ListN.{take}
use Rattle.checksum.specs.Check.{weighted}
use Rattle.checksum.proofs.weigh_on.Given as goal

abbrev pub invariant-loop-k : goal.invariant-loop-k
invariant-loop-k l = (l.k ≤ l.end) × (l.all ≤ 130050 * l.k) × (l.all ≡ weighted 1 (take l.k l.s))
