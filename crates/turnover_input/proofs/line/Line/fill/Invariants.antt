use Rattle.turnover_input.proofs.FillLaws.{Filling}
use Rattle.turnover_input.proofs.line.Line.fill.Given as goal

abbrev pub invariant-loop-i : goal.invariant-loop-i
invariant-loop-i l = Filling l.initial.self l.bytes l.self l.i
