use mathlib.Core.Path.{◌∙◌, sym}
use Rattle.entries.proofs.Laws.{part_record}
use Rattle.fetch.proofs.copy_held.Goals as goal

pub returns-then-holds : goal.returns-then-holds
returns-then-holds c = rw (sym c.holds.ensures ∙ c.if-holds.true, ← part_record _ _ _ c.start_of-o.ensures) c.put_bytes.ensures
