use Rattle.turnover_output.proofs.text.+number.Given as goal

abbrev pub decreases-number : goal.decreases-number
decreases-number l = l.x
