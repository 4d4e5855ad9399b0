use mathlib.Core.Path.{◌≡◌, sym}
use native.Mathlib.Omega.{arith}
use Rattle.reset_rules.specs.Slots.{some_seen}
use Rattle.reset_rules.proofs.SeenLaws.{some_empty, some_turn}
use Rattle.reset_rules.proofs.some_seen.Goals as goal

pub loop-j-init : goal.loop-j-init
unfolding some_seen
loop-j-init c = (omega arith, sym (some_empty _))

pub loop-j-preserved : goal.loop-j-preserved
unfolding some_seen
loop-j-preserved c = (omega arith, rw (some_turn, c.loop-j.invariant.1))

pub returns : goal.returns
unfolding some_seen
returns c = let e : c.loop-j.j ≡ 8 = omega arith in rw e at c.loop-j.invariant.1
