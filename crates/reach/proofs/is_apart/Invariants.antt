use Prim.Native.Nat.{ℕ, ◌≤◌}
use mathlib.Core.Path.{◌≡◌}
use mathlib.Core.Bool.{true, not, ◌&&◌}
use Rattle.codec.specs.Every.{every}
use Rattle.reset.specs.Reach.{linked, is_seen}
use Rattle.reach.proofs.is_apart.Given as goal

abbrev pub invariant-loop-i : goal.invariant-loop-i
invariant-loop-i l = (l.i ≤ 8) × (every l.i (λ (k : ℕ). not (is_seen l.seen k && linked l.limits k l.j)) ≡ true)
