use Prim.Native.Nat.{◌≤◌}
use mathlib.Core.Path.{◌≡◌}
use lib.ListN.{length}
use Rattle.codec.specs.Num.{nums_of}
use Rattle.codec.specs.Splice.{splice}
use Rattle.codec.proofs.put_row.Given as goal

abbrev pub invariant-loop-i : goal.invariant-loop-i
invariant-loop-i l = (l.i ≤ 8) × (length l.d ≡ length l.initial.d) × (l.d ≡ splice l.initial.d l.at (nums_of 2 l.i l.c))
