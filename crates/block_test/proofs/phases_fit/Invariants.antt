use Prim.Native.Nat.{ℕ, ◌≤◌}
use mathlib.Core.Path.{◌≡◌}
use Rattle.codec.specs.Every.{every}
use Rattle.entries.specs.Entries.{record_of}
use Rattle.block_test.specs.Sweep.{phase_test}
use Rattle.block_test.proofs.phases_fit.Given as goal

abbrev pub invariant-loop-k : goal.invariant-loop-k
invariant-loop-k l = (l.k ≤ l.count) × (l.ok ≡ every l.k (λ (i : ℕ). phase_test (record_of l.block i)))
