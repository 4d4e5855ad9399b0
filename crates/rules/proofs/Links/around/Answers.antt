use mathlib.Core.Path.{◌≡◌, sym}
use native.Mathlib.Omega.{arith}
use mathlib.Core.List.{[]}
use lib.ListN.{get_or}
use Rattle.codec.proofs.EveryLaws.{sum_none, sum_more}
use Rattle.reset.specs.Reach.{limit}
use Rattle.reset.specs.Config.{between}
use Rattle.rules.proofs.TableLaws.{turned_at}
use Rattle.rules.proofs.Links.around.Goals as goal

pub loop-j-init : goal.loop-j-init
loop-j-init c = (omega arith, sym (sum_none _), omega arith)

pub loop-j-preserved : goal.loop-j-preserved
unfolding limit
loop-j-preserved c =
    let l = c.loop-j in
    let e : get_or (get_or c.args.self.now.back c.args.i []) l.j 0 ≡ limit c.args.self.now.limits l.j c.args.i = rw c.args.self.now.turned (turned_at c.args.self.now.limits c.args.i l.j c.requires (omega arith)) in
    (omega arith, omega (arith, sum_more l.j (between c.args.self.now.limits c.args.i)), omega arith)

pub returns : goal.returns
returns c = let e : c.loop-j.j ≡ 8 = omega arith in (rw e at c.loop-j.invariant.1, omega arith)
