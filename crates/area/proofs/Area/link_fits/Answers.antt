use Prim.Native.Nat.{◌+◌, ◌*◌, ◌-◌, ◌/◌, ◌%◌}
use mathlib.Core.Path.{◌≡◌, ◌∙◌, sym}
use native.Mathlib.Omega.{arith}
use lib.ListN.{length-take, length-drop}
use Rattle.reset.specs.Config.{places}
use Rattle.rules.specs.Setup.{block_config}
use Rattle.link.specs.Image.{items_test, sized}
use Rattle.area.specs.Layout.{link_bytes}
use Rattle.area.proofs.Area.link_fits.Goals as goal
use Rattle.area.proofs.Area.link_fits.Goals.{After-items_fit}

-- the items of the part lent are those of link k
tested : (c : goal.After-items_fit)
    → let s = c.args in
    items_test (places (block_config s.self.head.now) (s.k / 8) (s.k % 8)) (sized s.n s.t) (link_bytes s.self.area.now s.k) ≡ c.items_fit.result
unfolding link_bytes
tested c =
    let s = c.args in
    let e : 888 + s.k * 715 + 715 - (888 + s.k * 715) ≡ 715 = omega arith in
    sym (rw (c.places_of.ensures.0, e) at c.items_fit.ensures)

pub items_fit-requires : goal.items_fit-requires
items_fit-requires c = (simp (length-take, length-drop) (omega arith), c.places_of.ensures.1)

pub returns : goal.returns
returns c = rw (tested (goal.at.returns c).After-items_fit ∙ c.if-not-items_fit.false) c.blank_between.ensures

pub returns-then-not-items_fit : goal.returns-then-not-items_fit
returns-then-not-items_fit c = rw (tested (goal.at.returns-then-not-items_fit c).After-items_fit ∙ c.if-not-items_fit.true)
