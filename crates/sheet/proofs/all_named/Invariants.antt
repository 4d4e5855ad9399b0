use Prim.Native.Nat.{ℕ}
use mathlib.Core.Path.{◌≡◌}
use mathlib.Core.Bool.{true}
use lib.Dec.{ltb}
use lib.ListN.{get_or}
use Rattle.codec.specs.Every.{every}
use Rattle.archive.specs.Archive.{records}
use Rattle.sheet.proofs.all_named.Given as goal

abbrev pub invariant-loop-number : goal.invariant-loop-number
invariant-loop-number l = every l.number-index (λ (i : ℕ). ltb (get_or l.numbers i 0) (records l.archive.bytes.now)) ≡ true
