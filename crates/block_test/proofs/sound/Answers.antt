use mathlib.Core.Path.{◌≡◌}
use native.Mathlib.Omega.{arith}
use Rattle.block_test.specs.Sweep.{sound_test}
use Rattle.block_test.proofs.sound.Goals as goal

pub returns-then-count-eq15 : goal.returns-then-count-eq15
returns-then-count-eq15 c =
    let e : c.args.count ≡ 15 = omega (arith, c.if-count-eq15.true) in
    rw e c.full_fits.ensures

pub returns : goal.returns
unfolding sound_test
returns c =
    let n = c.none.ensures in
    let f = rw (n.0, n.1) at c.fit.ensures in
    rw (f, c.tail_fits.ensures, c.sealed.ensures)
