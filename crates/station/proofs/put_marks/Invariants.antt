use Prim.Native.Nat.{ℕ, ◌≤◌}
use mathlib.Core.Path.{◌≡◌}
use mathlib.Core.Bool.{false}
use lib.ListN.{length, get_or}
use Rattle.codec.specs.Splice.{splice}
use Rattle.codec.specs.Rows.{upto}
use Rattle.station.specs.Image.{mark_byte}
use Rattle.station.proofs.put_marks.Given as goal

abbrev pub invariant-loop-j : goal.invariant-loop-j
invariant-loop-j l = (l.j ≤ 8) × (length l.part ≡ length l.initial.part) × (l.part ≡ splice l.initial.part l.at (upto l.j (λ (k : ℕ). mark_byte (get_or l.marks k false))))
