use Prim.Native.Nat.{◌+◌, ◌*◌, ◌≤◌}
use mathlib.Core.Path.{◌≡◌}
use Rattle.checksum.specs.Columns.{columns_to}
use Rattle.checksum.proofs.weigh_front.Given as goal

abbrev pub invariant-loop-i : goal.invariant-loop-i
invariant-loop-i l = (l.i ≤ 32) × (l.low ≤ 255 * l.i) × (l.high ≤ 191 * l.i) × (l.low + 256 * l.high ≡ columns_to 3 l.i l.s)
