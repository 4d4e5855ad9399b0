use mathlib.Core.Path.{◌≡◌, sym}
use native.Mathlib.Omega.{arith}
use Rattle.codec.proofs.EveryLaws.{every_none}
use Rattle.codec.proofs.FlagLaws.{every_turn}
use Rattle.step_parts.specs.Room.{room_bytes}
use Rattle.step_parts.proofs.turned.room.Goals as goal

pub loop-j-preserved : goal.loop-j-preserved
loop-j-preserved c = (omega arith, rw (every_turn, c.loop-j.invariant.1, c.from-count.ensures, c.places.ensures.0, c.count_at.ensures))

pub returns : goal.returns
unfolding room_bytes
returns c = let e : c.loop-j.j ≡ 8 = omega arith in rw e at c.loop-j.invariant.1

pub loop-j-init : goal.loop-j-init
loop-j-init c = (omega arith, sym (every_none _))
