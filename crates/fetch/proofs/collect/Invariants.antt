use Prim.Native.Nat.{◌≤◌}
use mathlib.Core.Path.{◌≡◌}
use lib.ListN.{length}
use Rattle.fetch.specs.Fetch.{copied}
use Rattle.fetch.proofs.collect.Given as goal

abbrev pub invariant-loop-i : goal.invariant-loop-i
invariant-loop-i l = (l.i ≤ length l.numbers) × (length l.copies ≡ length l.initial.copies) × (l.copies ≡ copied l.block l.numbers l.initial.copies l.i)
