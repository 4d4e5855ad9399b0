use mathlib.Core.Path.{◌≡◌}
use lib.ListN.{length}
use Rattle.turnover_session.specs.Turnover.{Takes}
use Rattle.turnover_parts.proofs.take_lines.Given as goal

abbrev pub invariant-lines : goal.invariant-lines
invariant-lines g l = (length l.out ≡ length l.initial.out) × (length l.rest ≡ length l.bytes → l.end ≡ l.at) × Takes l.initial.session l.bytes l.initial.out l.at l.rest l.end l.session l.out

abbrev pub decreases-lines : goal.decreases-lines
decreases-lines g l = length l.rest
