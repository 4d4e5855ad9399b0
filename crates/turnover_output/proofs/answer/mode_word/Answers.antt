use native.Mathlib.Omega.{arith}
use borrow.Author.Tests.{ne_eqb}
use Rattle.std.proofs.Common.{◌≢◌}
use Rattle.turnover_output.specs.Answer.{mode_word}
use Rattle.turnover_output.proofs.answer.mode_word.Goals as goal

pub returns-in_default-clause-is : goal.returns-in_default-clause-is
unfolding mode_word
returns-in_default-clause-is c =
    let p : c.args.mode ≢ 0 = λ e. omega arith in
    let q : c.args.mode ≢ 1 = λ e. omega arith in
    rw (ne_eqb c.args.mode 0 p, ne_eqb c.args.mode 1 q)
