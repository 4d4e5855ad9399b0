use Rattle.reset_rules.proofs.sending.Goals as goal

pub returns : goal.returns
returns c = rw (c.advance.ensures, c.one_more.ensures)
