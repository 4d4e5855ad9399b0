use Prim.Native.Nat.{ℕ, ◌≤◌}
use mathlib.Core.Path.{◌≡◌}
use mathlib.Core.Bool.{true}
use Rattle.codec.specs.Every.{every}
use Rattle.reset.specs.Config.{limit_below}
use Rattle.rules.proofs.links_below.Given as goal

abbrev pub invariant-loop-i : goal.invariant-loop-i
invariant-loop-i l = (l.i ≤ 8) × (every l.i (λ (k : ℕ). every 8 (limit_below l.n l.limits k)) ≡ true)
