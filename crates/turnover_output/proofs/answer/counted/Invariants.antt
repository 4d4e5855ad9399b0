use Prim.Native.Nat.{◌+◌, ◌*◌, ◌≤◌}
use mathlib.Core.Path.{◌≡◌}
use lib.ListN.{length, take}
use Rattle.decimal.specs.Decimal.{spaced}
use Rattle.turnover_output.specs.TextAt.{TextAt}
use Rattle.turnover_output.proofs.answer.counted.Given as goal

abbrev pub invariant-loop-x : goal.invariant-loop-x
invariant-loop-x l = (l.end ≤ l.at + 6 * l.x-index) × (length l.out ≡ length l.initial.out) × TextAt l.initial.out l.at (spaced (take l.x-index l.counts)) l.end l.out
