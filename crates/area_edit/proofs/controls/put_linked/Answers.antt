use mathlib.Core.Path.{◌∙◌, sym, ap}
use Rattle.area_edit.proofs.ControlLaws.{put-row, put-row_none}
use Rattle.area.specs.Layout.{image}
use Rattle.area_edit.proofs.controls.put_linked.Goals as goal

pub returns-then-row-j-eq0 : goal.returns-then-row-j-eq0
returns-then-row-j-eq0 c = λ d s r p. p ∙ ap (image d) (sym (put-row_none d _ _ _ r s _ c.if-row-j-eq0.true))

pub push_at-requires : goal.push_at-requires
push_at-requires c = (c.requires.0, c.requires.1, c.requires.2, c.requires.3 c.if-row-j-eq0.false)

pub returns : goal.returns
returns c = λ d s r p. c.push_at.ensures d s p ∙ ap (image d) (sym (put-row d _ _ _ r s _ c.if-row-j-eq0.false))
