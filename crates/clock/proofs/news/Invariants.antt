use Prim.Native.Nat.{◌≤◌}
use mathlib.Core.Path.{◌≡◌}
use Rattle.codec.specs.Every.{count_below}
use Rattle.clock.specs.Timestamp.{grew_at}
use Rattle.clock.proofs.news.Given as goal

abbrev pub invariant-loop-j : goal.invariant-loop-j
invariant-loop-j l = (l.j ≤ 8) × (l.grown ≡ count_below l.j (grew_at l.i l.a l.b))
