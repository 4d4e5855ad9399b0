use Prim.Native.Nat.{◌≤◌}
use mathlib.Core.Path.{◌≡◌}
use mathlib.Core.List.{[]}
use lib.ListN.{length, get_or}
use Rattle.area.specs.Layout.{image}
use Rattle.reset.specs.Config.{Config}
use Rattle.reset.specs.Clock.{vector}
use Rattle.reset.specs.State.{State, put_first}
use Rattle.link.specs.Image.{item_view}
use Rattle.area_edit.proofs.controls.put_all.Given as goal

abbrev pub invariant-loop-j : goal.invariant-loop-j
invariant-loop-j l = (l.j ≤ 8) × (length l.area ≡ length l.initial.area) × ((c : Config) (s : State vector) → get_or c.limits l.i [] ≡ l.row → l.initial.area ≡ image c s → l.area ≡ image c (put_first l.j c s l.i (item_view l.x)))
