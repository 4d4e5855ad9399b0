use mathlib.Core.Path.{sym, ◌∙◌}
use native.Mathlib.Omega.{arith}
use Rattle.turnover_settings.specs.Settings.{settings_block}
use Rattle.turnover_settings.proofs.Laws.{number-not_zero}
use Rattle.codec.specs.Num.{AreBytes}
use Rattle.turnover_commands.proofs.Laws.{set_up_ready}
use Rattle.turnover_commands.proofs.set_up.Goals as goal
use Rattle.turnover_commands.proofs.set_up.Goals.{in-Ok, in-Err}

pub returns-clause-done : goal.returns-clause-done
returns-clause-done c =
    let u = c.set_up-done.ensures in
    let a = c.args in
    let y : AreBytes (settings_block a.block.now a.run.now).buffer = rw (← u.block_after) (λ k. omega (arith, c.type_inv.block k)) in
    elim c.match-done.branch [
      | in-Ok w ↦ λ e. (rw w.stage-is at c.staged.ensures, rw u.area_after (set_up_ready a.block.now a.area.now a.run.now y (sym u.value ∙ e)))
      | in-Err w ↦ λ e. absurd (number-not_zero _ (rw w.in-Err.is at e))
    ]

pub returns-clause-refused : goal.returns-clause-refused
returns-clause-refused c =
    elim c.match-done.branch [
      | in-Ok w ↦ λ n. absurd (n (rw w.in-Ok.is))
      | in-Err w ↦ λ n. rw w.stage-is at c.staged.ensures
    ]
