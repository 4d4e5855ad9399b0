use mathlib.Core.Path.{◌∙◌, ap}
use Rattle.clock.specs.Range.{counts_fit}
use Rattle.station.proofs.counts_fit.Goals as goal

pub returns-then-known : goal.returns-then-known
returns-then-known c = rw c.if-known.true (c.counts_fit.ensures ∙ ap (counts_fit _ _) c.get_row-counts.ensures)

pub returns : goal.returns
returns c = rw c.if-known.false (c.counts_fit-2.ensures ∙ ap (counts_fit _ _) c.get_row-counts.ensures)
