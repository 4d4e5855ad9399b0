use mathlib.Core.Path.{◌≡◌, sym}
use native.Mathlib.Omega.{arith}
use Rattle.codec.proofs.EveryLaws.{every_none}
use Rattle.codec.proofs.FlagLaws.{every_turn}
use Rattle.reset.specs.Reach.{limit}
use Rattle.rules.proofs.TableLaws.{turned_at}
use Rattle.rules.proofs.Links.row_both_ways.Goals as goal

pub loop-j-init : goal.loop-j-init
loop-j-init c = (omega arith, sym (every_none _))

pub loop-j-preserved : goal.loop-j-preserved
unfolding limit
loop-j-preserved c =
    let l = c.loop-j in
    (omega arith, simp (every_turn, l.invariant.1, c.args.self.now.turned, turned_at c.args.self.now.limits c.args.i l.j c.requires (omega arith)))

pub returns : goal.returns
returns c = let e : c.loop-j.j ≡ 8 = omega arith in rw e at c.loop-j.invariant.1
