use mathlib.Core.Path.{◌≡◌, ◌∙◌, ap}
use Prim.Native.Nat.{ℕ}
use mathlib.Core.List.{List, ◌∷◌}
use native.Mathlib.Omega.{arith}
use lib.ListN.{length, get_or}
use Rattle.queue.proofs.Laws.{pop_image}
use Rattle.link.specs.Image.{image_item, image_link}
use Rattle.link.proofs.Laws.{item-length, link-count}
use Rattle.link.proofs.pop.Goals as goal

pub returns : goal.returns
unfolding image_link
returns c = λ x q e.
    let n : get_or c.args.part.now 0 0 ≡ length (x ∷ q) = ap (λ (l : List ℕ). get_or l 0 0) e ∙ link-count (x ∷ q) in
    c.pop.ensures ∙ rw e (pop_image image_item 21 item-length 714 x q (omega arith))
