use mathlib.Core.Path.{refl}
use borrow.Author.Tests.{ne_eqb}
use Rattle.std.proofs.lemmas.Result.{err_from_is_err_and}
use Rattle.turnover_settings.specs.Settings.{settings_block, set_up}
use Rattle.turnover_settings.proofs.Laws.{number-not_zero}
use Rattle.turnover_settings.proofs.set_up.Goals as goal

pub returns-in_err-write : goal.returns-in_err-write
unfolding set_up settings_block
returns-in_err-write c =
    let p = err_from_is_err_and c.from_residual.result c.from_residual.ensures.1 in
    let w = c.write.ensures in
    let e = c.in_err-write.ensures in
    rw (← c.load_limits-limits.ensures, ← c.settings.ensures, ← w.1, ← e.0, ne_eqb _ 0 (number-not_zero c.in_err-write.field-0.0))
    (record { value = rw (p.1, p.2); block_after = refl; area_after = refl })

pub returns : goal.returns
unfolding set_up settings_block
returns c =
    let w = c.write.ensures in
    let e = c.in_ok-write.ensures in
    rw (← c.load_limits-limits.ensures, ← c.settings.ensures, ← w.1, ← e.0) (record { value = c.setup.ensures.0; block_after = refl; area_after = c.setup.ensures.1 })
