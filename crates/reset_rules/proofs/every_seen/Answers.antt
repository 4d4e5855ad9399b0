use mathlib.Core.Path.{◌≡◌, sym}
use native.Mathlib.Omega.{arith}
use Rattle.codec.proofs.EveryLaws.{every_none}
use Rattle.codec.proofs.FlagLaws.{every_turn}
use Rattle.reset_rules.specs.Slots.{every_seen}
use Rattle.reset_rules.proofs.every_seen.Goals as goal

pub loop-j-init : goal.loop-j-init
unfolding every_seen
loop-j-init c = (omega arith, sym (every_none _))

pub loop-j-preserved : goal.loop-j-preserved
unfolding every_seen
loop-j-preserved c = (omega arith, rw (every_turn, c.loop-j.invariant.1))

pub returns : goal.returns
unfolding every_seen
returns c = let e : c.loop-j.j ≡ 8 = omega arith in rw e at c.loop-j.invariant.1
