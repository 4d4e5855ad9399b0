use mathlib.Core.Path.{◌∙◌}
use Rattle.melontime.proofs.Laws.{entry_after, mode_after_lem}
use Rattle.melontime.proofs.tell.Goals as goal
use Rattle.melontime.proofs.tell.Goals.{in-Ok-Entry, in-Ok-InMode, in-Err}

pub returns : goal.returns
returns c = (
  c.number_of.ensures,
  elim c.match-answer.branch [
    | in-Ok-Entry w ↦ entry_after c.args.event.now w.in-Ok-Entry.is (rw w.in-Ok-Entry.is at w.in-Ok-Entry.field-0-is) c.requires (w.event-is ∙ w.store.ensures)
    | in-Ok-InMode w ↦ mode_after_lem w.in-Ok-InMode.is (rw w.in-Ok-InMode.is at w.in-Ok-InMode.field-0-is) w.event-is
    | in-Err w ↦ rw w.in-Err.is w.event-is
  ],
)
