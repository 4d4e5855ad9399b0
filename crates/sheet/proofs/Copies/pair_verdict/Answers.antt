use Rattle.sheet.specs.Sheet.{pair_verdict}
use Rattle.sheet.proofs.Copies.pair_verdict.Goals as goal

pub returns : goal.returns
unfolding pair_verdict
returns c = rw (← c.event-x.ensures, ← c.event-y.ensures, ← c.verdict_between.ensures) c.from.ensures
