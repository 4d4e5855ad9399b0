use mathlib.Core.Path.{refl, ◌∙◌, sym}
use native.Mathlib.Omega.{arith}
use borrow.Author.Tests.{lt-ltb, le-ltb}
use Rattle.codec.proofs.SpliceLaws.{lent}
use Rattle.header.specs.Header.{image_header, write_header}
use Rattle.header.proofs.Laws.{image-length}
use Rattle.header.proofs.write.Goals as goal

pub returns-then-not-header_fits : goal.returns-then-not-header_fits
unfolding write_header
returns-then-not-header_fits c = rw (sym c.header_fits.ensures ∙ c.if-not-header_fits.true) (refl, refl)

pub returns-then-d-lt-BLOCK : goal.returns-then-d-lt-BLOCK
unfolding write_header
returns-then-d-lt-BLOCK c = rw (sym c.header_fits.ensures ∙ c.if-not-header_fits.false, lt-ltb _ 512 c.if-d-lt-BLOCK.true) (refl, refl)

pub returns : goal.returns
unfolding write_header
returns c =
    let a = c.args in
    rw (sym c.header_fits.ensures ∙ c.if-not-header_fits.false, le-ltb _ 512 c.if-d-lt-BLOCK.false)
    (refl, lent a.d.now c.store.new.d (image_header a.h a.limits) 0 512 c.store.ensures (omega (arith, image-length a.h a.limits)))
