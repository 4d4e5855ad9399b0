use Rattle.turnover_settings.proofs.link.Goals as goal

pub returns : goal.returns
returns c = rw (c.limit-2.ensures, c.limit.ensures)
