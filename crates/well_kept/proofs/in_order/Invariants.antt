use mathlib.Core.Path.{◌≡◌}
use Prim.Native.Nat.{◌≤◌}
use Rattle.archive.specs.Archive.{records}
use Rattle.well_kept.specs.Windows.{Rising}
use Rattle.well_kept.proofs.in_order.Given as goal

abbrev pub invariant-loop-p : goal.invariant-loop-p
invariant-loop-p l = (l.p-iterator.end ≡ records l.archive.bytes.now) × (l.p-iterator.first.number ≤ l.p-iterator.end) × Rising l.archive.bytes.now l.p-iterator.first.number l.last
