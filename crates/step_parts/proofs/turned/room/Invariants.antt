use Prim.Native.Nat.{ℕ, ◌+◌, ◌*◌, ◌≤◌}
use mathlib.Core.Path.{◌≡◌}
use mathlib.Core.Bool.{◌||◌}
use lib.Dec.{eqb, leb}
use lib.ListN.{get_or}
use Rattle.codec.specs.Every.{every}
use Rattle.area.specs.Layout.{link_bytes}
use Rattle.reset.specs.Config.{places_of}
use Rattle.step_parts.proofs.turned.room.Given as goal

abbrev pub invariant-loop-j : goal.invariant-loop-j
invariant-loop-j l = (l.j ≤ 8) × (l.ok ≡ every l.j (λ (b : ℕ). eqb (get_or l.row b 0) 0 || leb (get_or (link_bytes l.area (l.i * 8 + b)) 0 0 + l.k) (places_of (get_or l.row b 0))))
