use mathlib.Core.Path.{◌≡◌, sym}
use native.Mathlib.Omega.{arith}
use Rattle.codec.proofs.EveryLaws.{every_none}
use Rattle.codec.proofs.FlagLaws.{every_turn}
use Rattle.clock.specs.Range.{counts_fit}
use Rattle.clock.proofs.counts_fit.Goals as goal

pub loop-j-init : goal.loop-j-init
unfolding counts_fit
loop-j-init c = (omega arith, sym (every_none _))

pub loop-j-preserved : goal.loop-j-preserved
unfolding counts_fit
loop-j-preserved c = (omega arith, rw (every_turn, c.loop-j.invariant.1, c.ceiling.ensures, c.from.ensures))

pub returns : goal.returns
unfolding counts_fit
returns c = let e : c.loop-j.j ≡ 8 = omega arith in rw e at c.loop-j.invariant.1
