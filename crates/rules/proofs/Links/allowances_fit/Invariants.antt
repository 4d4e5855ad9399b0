use Prim.Native.Nat.{ℕ, ◌≤◌}
use mathlib.Core.Path.{◌≡◌}
use mathlib.Core.Bool.{true, ◌&&◌}
use Rattle.codec.specs.Every.{every}
use Rattle.reset.specs.Config.{allowance_below, within_at}
use Rattle.rules.proofs.Links.allowances_fit.Given as goal

abbrev pub invariant-loop-i : goal.invariant-loop-i
invariant-loop-i l = (l.i ≤ 8) × (every l.i (λ (k : ℕ). allowance_below l.h.n l.h.allowances k && within_at l.h.t l.h.allowances l.self.limits k) ≡ true)
