use mathlib.Core.Path.{◌∙◌, ap}
use Rattle.link.specs.Image.{parse_item, item_at}
use Rattle.link.proofs.first.Goals as goal

pub returns : goal.returns
unfolding item_at
returns c = c.load.ensures ∙ ap parse_item c.place.ensures.0
