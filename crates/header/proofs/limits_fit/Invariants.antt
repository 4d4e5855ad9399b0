use Prim.Native.Nat.{ℕ, ◌≤◌}
use mathlib.Core.Path.{◌≡◌}
use mathlib.Core.List.{[]}
use mathlib.Core.Bool.{true}
use lib.ListN.{get_or}
use Rattle.codec.specs.Every.{every}
use Rattle.header.specs.Header.{row_in_range}
use Rattle.header.proofs.limits_fit.Given as goal

abbrev pub invariant-loop-i : goal.invariant-loop-i
invariant-loop-i l = (l.i ≤ 8) × (every l.i (λ (k : ℕ). row_in_range (get_or l.limits k [])) ≡ true)
