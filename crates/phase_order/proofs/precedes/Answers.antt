use mathlib.Core.Path.{sym}
use Rattle.phase_order.proofs.Laws.{never_back}
use Rattle.phase_order.proofs.precedes.Goals as goal

pub returns-then-y-x : goal.returns-then-y-x
returns-then-y-x c = sym (never_back c.args.archive.bytes.now c.args.x.record c.args.y.record c.if-y-x.true)
