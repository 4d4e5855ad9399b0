use Prim.Native.Nat.{ℕ, ◌≤◌}
use mathlib.Core.Path.{◌≡◌}
use lib.Dec.{eqb, leb}
use Rattle.codec.specs.Every.{every}
use Rattle.block_test.specs.Sweep.{count_at}
use Rattle.block_test.proofs.column_fits.Given as goal

abbrev pub invariant-loop-k : goal.invariant-loop-k
invariant-loop-k l = (l.k ≤ 15) × (eqb l.above 0 ≡ every l.k (λ (j : ℕ). leb (count_at l.block l.i j) l.m))
