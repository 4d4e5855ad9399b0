use mathlib.Core.Path.{◌≡◌, ◌∙◌, sym}
use mathlib.Core.Bool.{not, ◌&&◌}
use lib.Dec.{eqb}
use lib.ListN.{get_or}
use native.Mathlib.Omega.{arith}
use borrow.Author.Count.{below_none, below_more}
use Rattle.reset.specs.Reach.{first, joins}
use Rattle.reach.proofs.SpreadLaws.{first_at, first_none}
use Rattle.reach.proofs.next.Goals as goal
use Rattle.reach.proofs.next.Goals.{After-is_apart}

-- the test of a station is that it joins
tested : (c : goal.After-is_apart)
    → let a = c.args in
    let j = c.loop-j.j in
    joins a.limits a.seen j ≡ (eqb (get_or a.seen j 0) 0 && not c.is_apart.result)
unfolding joins
tested c = rw c.is_apart.ensures

pub loop-j-init : goal.loop-j-init
loop-j-init c = (omega arith, below_none _)

pub returns-then-seen-j : goal.returns-then-seen-j
returns-then-seen-j c =
    let l = c.loop-j in
    let a = c.args in
    let e : first 8 (joins a.limits a.seen) ≡ l.j = first_at 8 (joins a.limits a.seen) l.j (omega arith) l.invariant.1 (tested (goal.at.returns-then-seen-j c).After-is_apart ∙ c.if-seen-j.true) in
    (sym e, omega arith)

pub loop-j-preserved : goal.loop-j-preserved
loop-j-preserved c = let l = c.loop-j in (omega arith, below_more _ l.j l.invariant.1 (tested (goal.at.loop-j-preserved c).After-is_apart ∙ c.if-seen-j.false))

pub returns : goal.returns
returns c =
    let l = c.loop-j in
    let a = c.args in
    let e : l.j ≡ 8 = omega arith in
    first_none 8 (joins a.limits a.seen) (rw e at l.invariant.1)
