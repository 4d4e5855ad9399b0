use mathlib.Core.Path.{refl}
use borrow.Author.Tests.{lt-ltb, le-ltb, eq-eqb, ne_eqb}
use Rattle.std.proofs.lemmas.Result.{err_from_is_err_and}
use Rattle.reset.specs.Reach.{limit, linked}
use Rattle.step_parts.specs.Link.{is_linked}
use Rattle.step_parts.proofs.config.Config.link.Goals as goal

pub returns-in_err-i-clause-err : goal.returns-in_err-i-clause-err
unfolding is_linked
returns-in_err-i-clause-err c =
    let p = err_from_is_err_and c.from_residual.result c.from_residual.ensures.1 in
    let (e, l) = c.in_err-i.ensures.err in
    rw (p.1, p.2) (e, rw (le-ltb _ _ l))

pub returns-then-peer-ge8-clause-err : goal.returns-then-peer-ge8-clause-err
unfolding is_linked
returns-then-peer-ge8-clause-err c = (refl, rw (lt-ltb _ _ c.in_ok-i.ensures.ok.1, le-ltb _ 8 c.if-peer-ge8.true))

pub returns-then-self-i-eq0-clause-err : goal.returns-then-self-i-eq0-clause-err
unfolding is_linked linked limit
returns-then-self-i-eq0-clause-err c =
    let (e, l) = c.in_ok-i.ensures.ok in
    (refl, rw (lt-ltb _ _ l, lt-ltb _ 8 c.if-peer-ge8.false, ← e, eq-eqb _ 0 c.if-self-i-eq0.true))

pub returns-clause-ok : goal.returns-clause-ok
unfolding is_linked linked limit
returns-clause-ok c =
    let (e, l) = c.in_ok-i.ensures.ok in
    (e, refl, rw (e, lt-ltb _ _ l, lt-ltb _ 8 c.if-peer-ge8.false, ← e, ne_eqb _ 0 c.if-self-i-eq0.false))
