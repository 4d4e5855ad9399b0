use Prim.Native.Nat.{◌*◌, ◌≤◌}
use Rattle.checksum.specs.Columns.{Columns}
use mathlib.Core.Path.{◌≡◌}
use Rattle.block_test.proofs.full_fits.Given as goal

abbrev pub invariant-loop-t : goal.invariant-loop-t
invariant-loop-t l = (l.t ≤ 3) × Columns l.block (l.t * 8) l.sums.lows l.sums.highs × (l.seen.count ≡ l.t * 4) × (l.seen.known.now ≡ l.known) × (l.seen.block.now ≡ l.block)
