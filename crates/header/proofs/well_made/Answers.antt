use mathlib.Core.Path.{◌∙◌, sym, ap}
use mathlib.Core.Bool.{Bool, ◌&&◌}
use lib.Dec.{eqb}
use lib.ListN.{get_or}
use native.Mathlib.Omega.{arith}
use borrow.Author.Tests.{ne_eqb}
use Rattle.header.specs.Header.{well_made_header}
use Rattle.header.proofs.Laws.{check_last}
use Rattle.header.proofs.well_made.Goals as goal

pub returns-then-s-ne-BLOCK : goal.returns-then-s-ne-BLOCK
unfolding well_made_header
returns-then-s-ne-BLOCK c = rw (ne_eqb _ 512 c.if-s-ne-BLOCK.true)

pub returns-then-not-s-fields_fit : goal.returns-then-not-s-fields_fit
returns-then-not-s-fields_fit c =
    let l = c.args.s.now in
    let k = ap (λ (x : Bool). eqb (get_or l 0 0) 1 && x) (sym c.fields_fit.ensures) in
    rw (check_last l c.if-s-ne-BLOCK.false, k ∙ c.if-not-s-fields_fit.true)

pub returns-then-not-rest_blank : goal.returns-then-not-rest_blank
returns-then-not-rest_blank c =
    let l = c.args.s.now in
    let k = ap (λ (x : Bool). eqb (get_or l 0 0) 1 && x) (sym c.fields_fit.ensures) in
    rw (check_last l c.if-s-ne-BLOCK.false, k ∙ c.if-not-s-fields_fit.false, sym c.rest_blank.ensures ∙ c.if-not-rest_blank.true)

pub sealed_front-requires : goal.sealed_front-requires
sealed_front-requires c = (omega arith, sym c.rest_blank.ensures ∙ c.if-not-rest_blank.false)

pub returns : goal.returns
returns c =
    let l = c.args.s.now in
    let k = ap (λ (x : Bool). eqb (get_or l 0 0) 1 && x) (sym c.fields_fit.ensures) in
    rw (check_last l c.if-s-ne-BLOCK.false, k ∙ c.if-not-s-fields_fit.false, sym c.rest_blank.ensures ∙ c.if-not-rest_blank.false, c.zeros.ensures, c.sealed_front.ensures)
