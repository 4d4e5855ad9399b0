use Prim.Native.Nat.{◌≤◌}
use mathlib.Core.Path.{◌≡◌}
use mathlib.Core.Bool.{true}
use Rattle.codec.specs.Every.{every}
use Rattle.rules.specs.Setup.{block_config}
use Rattle.area.specs.Layout.{station_test_at}
use Rattle.area.proofs.Area.stations_fit.Given as goal

abbrev pub invariant-loop-i : goal.invariant-loop-i
invariant-loop-i l = (l.i ≤ 8) × (every l.i (station_test_at (block_config l.self.head.now) l.self.area.now) ≡ true)
