use mathlib.Core.Path.{◌≡◌, ◌∙◌, ap}
use Prim.Native.Nat.{ℕ}
use mathlib.Core.List.{List}
use native.Mathlib.Omega.{arith}
use lib.ListN.{length, get_or}
use Rattle.queue.proofs.Laws.{push_image}
use Rattle.link.specs.Image.{item_view, image_item, image_link}
use Rattle.link.proofs.Laws.{item-length, link-count}
use Rattle.link.proofs.push.Goals as goal

pub returns : goal.returns
unfolding image_link
returns c = λ q e.
    let n : get_or c.args.part.now 0 0 ≡ length q = ap (λ (l : List ℕ). get_or l 0 0) e ∙ link-count q in
    c.push.ensures ∙ rw (e, c.store.ensures) (push_image image_item 21 item-length 714 q (item_view c.args.x) (omega arith))
