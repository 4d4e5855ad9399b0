use Prim.Native.Nat.{◌*◌, ◌≤◌}
use mathlib.Core.Path.{◌≡◌}
use Rattle.codec.specs.Every.{sum}
use Rattle.reset.specs.Receipts.{controls_left}
use Rattle.area.specs.Layout.{config_at, state_at}
use Rattle.receipts.proofs.controls_to.Given as goal

abbrev pub invariant-loop-i : goal.invariant-loop-i
invariant-loop-i l = (l.i ≤ 8) × (l.left ≡ sum l.i (controls_left (config_at l.area) (state_at l.area) l.g l.j)) × (l.left ≤ l.i * 2000000)
