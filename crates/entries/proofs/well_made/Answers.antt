use mathlib.Core.Path.{◌∙◌, sym}
use native.Mathlib.Omega.{arith}
use borrow.Author.Tests.{eq-eqb, ne_eqb}
use Rattle.entries.specs.Entries.{well_made_entries}
use Rattle.entries.proofs.Laws.{front_parts}
use Rattle.entries.proofs.well_made.Goals as goal

pub returns-then-s-ne-BLOCK : goal.returns-then-s-ne-BLOCK
unfolding well_made_entries
returns-then-s-ne-BLOCK c = rw (ne_eqb _ 512 c.if-s-ne-BLOCK.true)

pub returns-then-not-front_fits : goal.returns-then-not-front_fits
unfolding well_made_entries
returns-then-not-front_fits c = rw (eq-eqb _ 512 c.if-s-ne-BLOCK.false, sym c.front_fits.ensures ∙ c.if-not-front_fits.true)

pub body_fits-requires : goal.body_fits-requires
body_fits-requires c =
    let p = front_parts c.args.s.now (sym c.front_fits.ensures ∙ c.if-not-front_fits.false) in
    (omega arith, omega (arith, p.2), omega (arith, p.3))

pub returns : goal.returns
unfolding well_made_entries
returns c = rw (eq-eqb _ 512 c.if-s-ne-BLOCK.false, sym c.front_fits.ensures ∙ c.if-not-front_fits.false, ← c.count_of.ensures) c.body_fits.ensures
