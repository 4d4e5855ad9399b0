use mathlib.Core.Path.{◌≡◌, refl, ◌∙◌, sym}
use native.Mathlib.Omega.{arith}
use lib.ListN.{get_or}
use borrow.Author.Tests.{eq-eqb, ne_eqb}
use Rattle.codec.proofs.EveryLaws.{every_none, every_more, every_fails}
use Rattle.area.specs.Layout.{link_bytes}
use Rattle.area_edit.proofs.PartLaws.{count_byte}
use Rattle.quiescence.proofs.Laws.{idle, links_empty_lem}
use Rattle.quiescence.proofs.links_empty.Goals as goal

pub returns-then-area-k-ne0 : goal.returns-then-area-k-ne0
returns-then-area-k-ne0 c =
    let a = c.args.area.now in
    let k = c.loop-k.k in
    let held : get_or (link_bytes a k) 0 0 ≡ 0 → ⊥ = λ e. omega (arith, count_byte a k refl, c.if-area-k-ne0.true) in
    sym (links_empty_lem a ∙ every_fails 64 (idle a) k (omega arith) (ne_eqb _ 0 held))

pub loop-k-preserved : goal.loop-k-preserved
loop-k-preserved c =
    let a = c.args.area.now in
    let k = c.loop-k.k in
    let none : get_or (link_bytes a k) 0 0 ≡ 0 = omega (arith, count_byte a k refl, c.if-area-k-ne0.false) in
    (omega arith, every_more k (idle a) c.loop-k.invariant.1 (eq-eqb _ 0 none))

pub returns : goal.returns
returns c =
    let e : c.loop-k.k ≡ 64 = omega arith in
    sym (links_empty_lem c.args.area.now ∙ (rw e at c.loop-k.invariant.1))

pub loop-k-init : goal.loop-k-init
loop-k-init c = (omega arith, every_none _)
