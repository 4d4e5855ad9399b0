use mathlib.Core.Path.{◌∙◌, sym}
use Rattle.link.specs.Image.{image_item}
use Rattle.link.proofs.Laws.{control-image}
use Rattle.link.proofs.store.Goals as goal

pub returns-in-Message : goal.returns-in-Message
unfolding image_item
returns-in-Message c = rw c.in-Message.is c.store_fields.ensures

pub returns-in-Control : goal.returns-in-Control
returns-in-Control c =
    rw c.in-Control.is (rw c.from.ensures at c.store_fields-in-Control.ensures ∙ sym (control-image c.in-Control.control))
