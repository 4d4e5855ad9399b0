use Prim.Native.Nat.{ℕ}
use mathlib.Core.Path.{◌∙◌}
use native.Mathlib.Omega.{arith}
use lib.ListN.{get_or-replicate}
use borrow.Author.Rules.{rules}
use Rattle.phase_order.proofs.ReachLaws.{first_reached}
use Rattle.phase_order.proofs.reached_first.Goals as goal

pub join-requires : goal.join-requires
join-requires c = omega (arith, c.lasts.ensures.0, c.requires)

pub shape_of-table : goal.shape_of-table
shape_of-table c = c.lasts.ensures.0

pub returns : goal.returns
returns c =
    (c.lasts.ensures.0, first_reached c.args.archive.bytes.now c.args.x.record c.asked_first.result _ c.join.result c.args.x.known c.args.x.counted c.asked_first.ensures c.lasts.ensures.1 (omega (arith, c.lasts.ensures.0, c.requires)) (search rules) (λ t h. c.join.ensures t h ∙ rw (get_or-replicate {A = ℕ} 8 t 0 0 h)))
