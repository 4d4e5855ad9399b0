use mathlib.Core.Path.{◌≡◌}
use mathlib.Core.Bool.{true}
use Rattle.codec.specs.Every.{every}
use Rattle.reset.specs.Reach.{is_seen}
use Rattle.reach.proofs.every_reached.Given as goal

abbrev pub invariant-loop-i : goal.invariant-loop-i
invariant-loop-i l = (every l.i (is_seen l.seen) ≡ true)
