use Prim.Native.Nat.{ℕ, ◌≤◌}
use mathlib.Core.Path.{◌≡◌}
use lib.Dec.{leb}
use Rattle.codec.specs.Every.{every}
use Rattle.clock.specs.Range.{ceiling_of}
use Rattle.block_test.specs.Sweep.{count_at}
use Rattle.block_test.proofs.counts_fit.Given as goal

abbrev pub invariant-loop-j : goal.invariant-loop-j
invariant-loop-j l = (l.j ≤ 8) × (l.ok ≡ every l.j (λ (i : ℕ). every 15 (λ (k : ℕ). leb (count_at l.block i k) (ceiling_of l.n l.t i))))
