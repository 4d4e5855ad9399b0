use Prim.Native.Nat.{◌≤◌}
use mathlib.Core.Path.{◌≡◌}
use Rattle.codec.specs.Every.{greatest}
use Rattle.area.specs.Layout.{state_at}
use Rattle.receipts.proofs.Laws.{target_at}
use Rattle.receipts.proofs.greatest_target.Given as goal

abbrev pub invariant-loop-i : goal.invariant-loop-i
invariant-loop-i l = (l.i ≤ l.n) × (l.g ≡ greatest l.i (target_at (state_at l.area))) × (l.g ≤ 1000000)
