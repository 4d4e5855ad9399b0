use native.Mathlib.Omega.{arith}
use mathlib.Core.Path.{◌≡◌, refl}
use Rattle.codec.specs.Every.{some}
use Rattle.phase_order.specs.Passes.{meets}
use Rattle.codec.proofs.SomeLaws.{some_more}
use Rattle.phase_order.proofs.meets.Goals as goal

pub loop-k-init : goal.loop-k-init
unfolding some
loop-k-init c = (omega arith, refl)

pub loop-k-preserved : goal.loop-k-preserved
loop-k-preserved c =
    (omega arith, rw (some_more c.loop-k.k, ← c.loop-k.invariant.1))

pub returns : goal.returns
unfolding meets
returns c = let e : c.loop-k.k ≡ 8 = omega arith in rw e at c.loop-k.invariant.1
