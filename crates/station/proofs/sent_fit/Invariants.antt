use Prim.Native.Nat.{◌≤◌}
use mathlib.Core.Path.{◌≡◌}
use Rattle.codec.specs.Every.{every}
use Rattle.station.specs.Test.{sent_within_at}
use Rattle.station.proofs.sent_fit.Given as goal

abbrev pub invariant-loop-j : goal.invariant-loop-j
invariant-loop-j l = (l.j ≤ 8) × (l.ok ≡ every l.j (sent_within_at l.head l.o l.part))
