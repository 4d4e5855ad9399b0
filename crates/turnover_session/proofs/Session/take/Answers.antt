use mathlib.Core.Path.{sym, ◌∙◌}
use lib.ListN.{length, drop_of_length-le}
use mathlib.Core.List.{[], ◌++◌}
use native.Mathlib.Omega.{arith}
use Rattle.turnover_output.proofs.TextAtLaws.{text_none}
use Rattle.turnover_commands.specs.Run.{obeyed, standing_of}
use Rattle.turnover_input.specs.Lines.{before}
use Rattle.turnover_session.proofs.Laws.{part_line, line_taken, behind_part}
use Rattle.turnover_session.proofs.Session.take.Goals as goal

pub returns-in_default-clause-takes : goal.returns-in_default-clause-takes
returns-in_default-clause-takes g c =
    let f = c.fill.ensures in
    let d = c.args.bytes.now in
    let w = rw c.in_default.is at f.whole in
    let r = rw c.in_default.is at f.rest in
    record {
      text = [];
      printed = text_none (omega arith);
      part = (length d, omega arith, sym (drop_of_length-le d {i = length d} (omega arith)));
      goes = record { whole = λ t k. (t ++ before d, f.line t k, λ more. part_line _ t d [] more (sym w) r) };
    }

pub returns-clause-takes : goal.returns-clause-takes
returns-clause-takes g c =
    let f = c.fill.ensures in
    let d = c.args.bytes.now in
    let w = rw c.in-Some.is at f.whole in
    let r = rw c.in-Some.is at f.rest in
    let q = c.command-command in
    let s = standing_of c.args.self.now.state in
    record {
      text = (obeyed s q.result).text;
      printed = c.obey-end.ensures.text;
      part = let b = behind_part d in (b.0, b.1, r ∙ b.2);
      goes = record { whole = λ t k. ([], c.new-self.ensures, λ more. line_taken s _ _ c.obey-end.ensures.stands t d _ more (sym w) r (q.ensures (t ++ before d) (f.line t k)).0) };
    }
