use mathlib.Core.Path.{refl}
use Rattle.turnover_commands.proofs.state.State.first.Goals as goal

pub returns-in-Ok : goal.returns-in-Ok
returns-in-Ok g c =
    let u = c.in-Ok.ensures in
    let p = u.done refl in
    rw (← u.value, ← u.block_after, ← u.area_after, ← p.0) (c.stepping.ensures.by_index _)
