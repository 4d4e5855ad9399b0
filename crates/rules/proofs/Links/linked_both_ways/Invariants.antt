use Prim.Native.Nat.{ℕ, ◌≤◌}
use mathlib.Core.Path.{◌≡◌}
use mathlib.Core.Bool.{true, ◌&&◌}
use Rattle.codec.specs.Every.{every}
use Rattle.reset.specs.Config.{zero_at, both_or_none}
use Rattle.rules.proofs.Links.linked_both_ways.Given as goal

abbrev pub invariant-loop-i : goal.invariant-loop-i
invariant-loop-i l = (l.i ≤ 8) × (every l.i (λ (k : ℕ). zero_at l.self.limits k && every 8 (both_or_none l.self.limits k)) ≡ true)
