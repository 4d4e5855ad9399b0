use Prim.Native.Nat.{ℕ}
use mathlib.Core.Path.{◌≡◌, refl, ◌∙◌, sym, ap}
use mathlib.Core.List.{List, []}
use native.Mathlib.Omega.{arith}
use lib.ListN.{length, get_or}
use Rattle.area.specs.Layout.{image}
use Rattle.area.proofs.Parts.{image-length}
use Rattle.area_edit.proofs.ControlLaws.{first_none, first_more, first_all, first_held, row-linked}
use Rattle.area_edit.proofs.controls.put_all.Goals as goal

pub loop-j-init : goal.loop-j-init
loop-j-init c = (omega arith, refl, λ d s r p. p ∙ ap (image d) (sym (first_none d s _ _)))

pub put_linked-requires : goal.put_linked-requires
put_linked-requires c =
    let l = c.loop-j in
    let r = c.requires.1 in
    let w = ap (λ (m : List (List ℕ)). get_or m c.args.i []) r.limits in
    let q = l.invariant.2 r.config r.state w r.is in (
      ap length q ∙ image-length _ _,
      c.requires.0,
      omega arith,
      λ h. omega (arith, first_held r.config r.state c.args.i _ l.area l.j c.requires.0 (omega arith) q, r.room l.j (omega arith) (row-linked r.config c.args.i l.j _ w h)),
    )

pub loop-j-preserved : goal.loop-j-preserved
loop-j-preserved c =
    let l = c.loop-j in
    (omega arith, omega (arith, c.put_linked.auto.area), λ d s r p. c.put_linked.ensures d _ r (l.invariant.2 d s r p) ∙ ap (image d) (first_more d s _ _ l.j))

pub returns : goal.returns
returns c = λ d s r p.
    let l = c.loop-j in
    let e : l.j ≡ 8 = omega arith in
    (rw e at (l.invariant.2 d s (ap (λ (m : List (List ℕ)). get_or m c.args.i []) r) p)) ∙ ap (image d) (first_all d s _ _)

pub bounds-limits-i : goal.bounds-limits-i
bounds-limits-i c = c.requires.0
