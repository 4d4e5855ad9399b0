use Prim.Native.Nat.{◌≤◌}
use mathlib.Core.Path.{◌≡◌}
use lib.ListN.{length}
use Rattle.codec.specs.Splice.{splice}
use Rattle.setup.specs.Limits.{initial_bytes}
use Rattle.setup.proofs.put_stations.Given as goal

abbrev pub invariant-loop-i : goal.invariant-loop-i
invariant-loop-i l = (l.i ≤ 8) × (length l.area ≡ length l.initial.area) × (l.area ≡ splice l.initial.area 512 (initial_bytes l.limits l.i))
