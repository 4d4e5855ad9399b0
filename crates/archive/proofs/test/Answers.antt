use mathlib.Core.Path.{◌∙◌, sym}
use borrow.Author.Tests.{eq-eqb, ne_eqb}
use Rattle.codec.proofs.EveryLaws.{every_none}
use Rattle.header.proofs.Laws.{header-small, well_made-length}
use Rattle.archive.specs.Archive.{blocks, blocks_fit, archive_test}
use Rattle.archive.proofs.Laws.{short-refused}
use Rattle.archive.proofs.test.Goals as goal

pub returns-then-a-ne0 : goal.returns-then-a-ne0
unfolding archive_test blocks
returns-then-a-ne0 c = rw (ne_eqb _ 0 c.if-a-ne0.true)

pub returns-then-a-lt-BLOCK : goal.returns-then-a-lt-BLOCK
unfolding archive_test blocks
returns-then-a-lt-BLOCK c = rw (eq-eqb _ 0 c.if-a-ne0.false, short-refused c.args.a.now c.if-a-lt-BLOCK.true)

pub returns-then-not-well_made : goal.returns-then-not-well_made
unfolding archive_test blocks
returns-then-not-well_made c = rw (eq-eqb _ 0 c.if-a-ne0.false, sym c.well_made.ensures ∙ c.if-not-well_made.true)

pub returns-then-n-eq0 : goal.returns-then-n-eq0
unfolding archive_test blocks_fit blocks
returns-then-n-eq0 c =
    let h = sym c.well_made.ensures ∙ c.if-not-well_made.false in
    rw (eq-eqb _ 0 c.if-a-ne0.false, h, c.if-n-eq0.true) (sym (every_none _))

pub by-requires : goal.by-requires
by-requires c =
    let h = sym c.well_made.ensures ∙ c.if-not-well_made.false in
    (well_made-length _ h, header-small _ h)

pub returns : goal.returns
unfolding archive_test blocks
returns c =
    let h = sym c.well_made.ensures ∙ c.if-not-well_made.false in
    rw (eq-eqb _ 0 c.if-a-ne0.false, h) (rw c.by.ensures.head at c.blocks_fit.ensures)
