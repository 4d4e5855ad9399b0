use Prim.Native.Nat.{◌+◌}
use mathlib.Core.Path.{◌≡◌, refl, sym, ap, ◌∙◌}
use native.Mathlib.Omega.{arith}
use lib.ListN.{length}
use Rattle.fetch.proofs.Laws.{copied_none, copied_more, copied-long}
use Rattle.fetch.proofs.collect.Goals as goal

pub loop-i-init : goal.loop-i-init
loop-i-init c = (omega arith, refl, sym (copied_none _ _ _))

pub loop-i-preserved : goal.loop-i-preserved
loop-i-preserved c =
    let e = copied_more c.args.block.now c.args.numbers.now c.args.copies.now c.loop-i.i _ (rw c.loop-i.invariant.2 at c.copy_held.ensures) in
    (omega arith, ap length e ∙ copied-long c.args.block.now c.args.numbers.now c.args.copies.now (c.loop-i.i + 1) c.requires.0 (omega arith), e)

pub returns : goal.returns
returns c =
    let e : c.loop-i.i ≡ length c.args.numbers.now = omega arith in
    (refl, rw (← e) c.loop-i.invariant.2)
