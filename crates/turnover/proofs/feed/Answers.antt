use mathlib.Core.Path.{sym, ◌∙◌}
use mathlib.Core.List.{[]}
use native.Mathlib.Omega.{arith}
use borrow.Author.Tests.{eqb-true}
use Rattle.turnover_session.proofs.Laws.{goes_none, goes_more, goes-whole}
use Rattle.turnover.proofs.feed.Goals as goal

pub bytes-init : goal.bytes-init
bytes-init g c = (c.requires, ([], goes_none _ _ _ c.args.bytes.now))

pub bytes-preserved : goal.bytes-preserved
bytes-preserved g c = let i = c.bytes.invariant in (omega (arith, i.0), (_, goes_more i.1.1 c.take_lines-end.ensures.takes.goes))

pub returns : goal.returns
returns g c = goes-whole _ c.bytes.invariant.1.1 (eqb-true _ 0 (sym c.is_empty.ensures ∙ c.bytes-test.false))
