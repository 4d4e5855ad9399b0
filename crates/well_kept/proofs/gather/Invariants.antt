use mathlib.Core.Path.{◌≡◌}
use Prim.Native.Nat.{◌≤◌}
use lib.ListN.{length}
use Rattle.archive.specs.Archive.{records}
use Rattle.well_kept.specs.Windows.{Gathered}
use Rattle.well_kept.proofs.gather.Given as goal

abbrev pub invariant-loop-p : goal.invariant-loop-p
invariant-loop-p l = (l.p-iterator.end ≡ records l.archive.bytes.now) × (l.p-iterator.first.number ≤ l.p-iterator.end) × (length l.list ≡ length l.initial.list)
    × Gathered l.archive.bytes.now l.lo l.hi l.p-iterator.first.number l.w l.list
