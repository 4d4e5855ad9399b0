use Prim.Native.Nat.{ℕ, ◌*◌, ◌≤◌}
use mathlib.Core.Path.{◌≡◌}
use mathlib.Core.List.{List}
use Rattle.codec.specs.Every.{sum}
use Rattle.reset.specs.Receipts.{controls_left}
use Rattle.area.specs.Layout.{config_at, state_at}
use Rattle.receipts.proofs.all_controls.Given as goal

-- what station j has still to receive beside messages
abbrev pub left-to : List ℕ → ℕ → ℕ → ℕ
left-to a g j = sum 8 (controls_left (config_at a) (state_at a) g j)

abbrev pub invariant-loop-j : goal.invariant-loop-j
invariant-loop-j l = (l.j ≤ 8) × (l.left ≡ sum l.j (left-to l.area l.g)) × (l.left ≤ l.j * 16000000)
