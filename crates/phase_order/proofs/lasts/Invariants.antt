use mathlib.Core.Path.{◌≡◌}
use Prim.Native.Nat.{◌≤◌}
use lib.ListN.{length}
use Rattle.archive.specs.Archive.{records}
use Rattle.phase_order.specs.Passes.{Table}
use Rattle.phase_order.proofs.lasts.Given as goal

abbrev pub invariant-loop-p : goal.invariant-loop-p
invariant-loop-p l = (l.p-iterator.end ≡ records l.archive.bytes.now) × (l.p-iterator.first.number ≤ l.p-iterator.end) × (length l.table ≡ length l.initial.table)
    × Table l.archive.bytes.now l.from l.asked l.p-iterator.first.number l.table
