use mathlib.Core.Path.{◌≡◌, sym}
use native.Mathlib.Omega.{arith}
use Rattle.codec.proofs.EveryLaws.{every_none}
use Rattle.codec.proofs.FlagLaws.{every_turn}
use Rattle.station.proofs.sent_fit.Goals as goal

pub loop-j-init : goal.loop-j-init
loop-j-init c = (omega arith, sym (every_none _))

pub loop-j-preserved : goal.loop-j-preserved
loop-j-preserved c = (omega arith, rw (every_turn, c.loop-j.invariant.1))

pub returns : goal.returns
returns c = let e : c.loop-j.j ≡ 8 = omega arith in rw e at c.loop-j.invariant.1
