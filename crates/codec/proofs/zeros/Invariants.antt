use Prim.Native.Nat.{◌≤◌}
use lib.ListN.{length, take}
use Rattle.codec.specs.Every.{total}
use Rattle.codec.proofs.EveryLaws.{Alike}
use Rattle.codec.proofs.zeros.Given as goal

abbrev pub invariant-loop-x : goal.invariant-loop-x
invariant-loop-x l = (l.x-index ≤ length l.s) × Alike l.acc (total (take l.x-index l.s))
