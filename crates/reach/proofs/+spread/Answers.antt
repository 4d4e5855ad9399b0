use mathlib.Core.Path.{◌≡◌, sym, ◌∙◌}
use native.Mathlib.Omega.{arith}
use borrow.Author.Rules.{rules}
use lib.ListN.{length}
use Rattle.reset.specs.Reach.{first, joins}
use Rattle.reach.proofs.SpreadLaws.{spread_none, less, more}
use Rattle.reach.proofs.+spread.Goals as goal

pub returns-in_default : goal.returns-in_default
returns-in_default t c =
    let e : first 8 (joins c.args.limits c.args.seen) ≡ 8 = c.in_default.ensures in
    sym (spread_none _ _ _ (omega arith))

pub spread-requires : goal.spread-requires
spread-requires t c =
    let n : length c.args.seen ≡ 8 = search rules in
    let l = less c.args.limits c.args.seen c.in-Some.j n c.in-Some.ensures.0 (omega arith) in
    (omega (arith, l, c.decreases), tt)

pub returns : goal.returns
returns t c =
    let n : length c.args.seen ≡ 8 = search rules in
    c.spread.ensures ∙ more c.args.limits c.args.seen c.in-Some.j n c.in-Some.ensures.0 (omega arith)
