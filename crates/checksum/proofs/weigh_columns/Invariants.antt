use Prim.Native.Nat.{◌*◌, ◌≤◌}
use mathlib.Core.Path.{◌≡◌}
use Rattle.checksum.specs.Columns.{columns_to}
use Rattle.checksum.proofs.weigh_columns.Given as goal

abbrev pub invariant-loop-k : goal.invariant-loop-k
invariant-loop-k l = (l.k ≤ 32) × (l.sum ≤ 1836000 * l.k) × (l.sum ≡ columns_to 15 l.k l.s)
