use native.Mathlib.Omega.{arith}
use borrow.Author.Tests.{ne_eqb}
use Rattle.std.proofs.Common.{◌≢◌}
use lib.ListN.{get_or}
use Rattle.link.specs.Image.{item_of, parse_item}
use Rattle.link.proofs.load.Goals as goal

pub returns-in-2 : goal.returns-in-2
unfolding parse_item item_of
returns-in-2 c = rw c.in-2.is

pub returns-in-3 : goal.returns-in-3
unfolding parse_item item_of
returns-in-3 c = rw c.in-3.is

pub returns-in_default : goal.returns-in_default
unfolding parse_item item_of
returns-in_default c =
    let l = c.args.part.now in
    let p : get_or l 0 0 ≢ 2 = λ e. omega arith in
    let q : get_or l 0 0 ≢ 3 = λ e. omega arith in
    rw (c.get.ensures, c.get_row.ensures, ne_eqb (get_or l 0 0) 2 p, ne_eqb (get_or l 0 0) 3 q)
