use mathlib.Core.Path.{◌≡◌}
use Prim.Native.Nat.{◌≤◌}
use Rattle.archive.specs.Archive.{records}
use Rattle.phase_order.specs.Passes.{NoneMeets}
use Rattle.phase_order.proofs.next_phase.Given as goal

abbrev pub invariant-loop-p : goal.invariant-loop-p
invariant-loop-p l = (l.p-iterator.end ≡ records l.archive.bytes.now) × (l.p-iterator.first.number ≤ l.p-iterator.end) × (l.from ≤ l.best) × (l.best ≤ l.until)
    × NoneMeets l.archive.bytes.now l.reached l.from l.best l.p-iterator.first.number
