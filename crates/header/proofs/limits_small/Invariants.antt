use Prim.Native.Nat.{ℕ, ◌+◌, ◌≤◌}
use mathlib.Core.Path.{◌≡◌}
use lib.Dec.{leb}
use lib.ListN.{get_or}
use Rattle.codec.specs.Every.{every}
use Rattle.header.proofs.limits_small.Given as goal

abbrev pub invariant-loop-i : goal.invariant-loop-i
invariant-loop-i l = (l.i ≤ 64) × (l.ok ≡ every l.i (λ (k : ℕ). leb (get_or l.s (32 + k) 0) 32))
