use mathlib.Core.Path.{refl}
use native.Mathlib.Omega.{arith}
use Rattle.std.proofs.lemmas.Grind.{common_steps}
use Rattle.turnover_session.proofs.Laws.{takes_none, takes_more, length_part}
use Rattle.turnover_parts.proofs.take_lines.Goals as goal

pub lines-init : goal.lines-init
lines-init g c = (refl, λ e. refl, takes_none _ _ _ _ c.requires)

pub lines-preserved : goal.lines-preserved
lines-preserved g c =
    let i = c.lines.invariant in
    let f = c.take.ensures in
    let n = f.one_line.on (grind (arith, common_steps)) in
    (omega (arith, i.0), λ e. absurd (omega (arith, length_part i.2.part)), takes_more i.2 f.takes)
