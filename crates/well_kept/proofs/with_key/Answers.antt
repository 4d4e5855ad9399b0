use native.Mathlib.Omega.{arith}
use mathlib.Core.Path.{refl}
use Rattle.well_kept.proofs.WindowLaws.{gathered-behind, gathered_before, gathered_in}
use Rattle.well_kept.proofs.with_key.Goals as goal
use Rattle.well_kept.proofs.with_key.Goals.{then-w-list, else-w-list}

-- a key behind the window
pub returns-then-hi-key : goal.returns-then-hi-key
returns-then-hi-key c =
    (refl, λ a n e g. gathered-behind a _ _ g _ e _ c.if-hi-key.true (omega (arith, c.min.ensures)) (omega (arith, c.min.ensures)) (omega (arith, c.min.ensures, c.if-hi-key.true, g.above)))

-- a key before it
pub returns-then-key-lo : goal.returns-then-key-lo
returns-then-key-lo c = (refl, λ a n e g. gathered_before a _ _ g _ e (omega arith) (omega arith))

-- a key of it, with and without a place
pub returns : goal.returns
returns c =
    (c.if-w-list.auto.list, λ a n e g. gathered_in a _ _ g _ e c.if-w-list.list (omega arith) (omega arith) c.if-w-list.auto.list (λ l. elim c.if-w-list.branch [ then-w-list w ↦ w.list-is | else-w-list w ↦ absurd (omega arith) ]))
