use mathlib.Core.Path.{◌≡◌, sym}
use native.Mathlib.Omega.{arith}
use Rattle.codec.proofs.EveryLaws.{every_none, or_zero}
use Rattle.codec.proofs.FlagLaws.{every_turn}
use Rattle.block_test.proofs.SweepLaws.{sub_leb}
use Rattle.block_test.proofs.column_fits.Goals as goal

pub loop-k-init : goal.loop-k-init
loop-k-init c = (omega arith, sym (every_none _))

pub loop-k-preserved : goal.loop-k-preserved
loop-k-preserved c =
    let l = c.loop-k in
    (omega arith, rw (every_turn, or_zero l.above c.saturating_sub-above.result, l.invariant.1, c.saturating_sub-above.ensures, sub_leb, c.get.ensures))

pub returns : goal.returns
returns c =
    let e : c.loop-k.k ≡ 15 = omega arith in
    rw e at c.loop-k.invariant.1
