use mathlib.Core.Path.{◌≡◌, sym}
use native.Mathlib.Omega.{arith}
use Rattle.codec.proofs.EveryLaws.{every_none}
use Rattle.codec.proofs.FlagLaws.{every_turn}
use Rattle.block_test.specs.Sweep.{counts_test}
use Rattle.block_test.proofs.counts_fit.Goals as goal

pub loop-j-init : goal.loop-j-init
loop-j-init c = (omega arith, sym (every_none _))

pub column_fits-ok-requires : goal.column_fits-ok-requires
column_fits-ok-requires c = (c.requires, omega arith)

pub loop-j-preserved : goal.loop-j-preserved
loop-j-preserved c = (omega arith, rw (every_turn, c.loop-j.invariant.1, c.column_fits-ok.ensures, c.ceiling.ensures, c.from.ensures))

pub returns : goal.returns
unfolding counts_test
returns c =
    let e : c.loop-j.j ≡ 8 = omega arith in
    rw e at c.loop-j.invariant.1
