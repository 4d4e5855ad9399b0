use native.Mathlib.Omega.{arith}
use mathlib.Core.Path.{sym, ◌∙◌}
use Rattle.phase_order.proofs.nearer.Goals as goal

pub returns-then-e-from : goal.returns-then-e-from
returns-then-e-from c = (omega arith, omega arith, λ l m z. absurd (omega arith))

pub returns-then-best-e : goal.returns-then-best-e
returns-then-best-e c = (omega arith, omega arith, λ l m z. absurd (omega arith))

pub returns-then-reached-e-gt0 : goal.returns-then-reached-e-gt0
returns-then-reached-e-gt0 c = (omega arith, omega arith, λ l m z. absurd (omega arith))

pub returns-then-meets : goal.returns-then-meets
returns-then-meets c = (omega arith, omega arith, λ l m z. absurd (omega arith))

pub returns : goal.returns
returns c =
    (c.requires.1, omega arith, λ l m z. sym c.meets.ensures ∙ c.if-meets.false)
