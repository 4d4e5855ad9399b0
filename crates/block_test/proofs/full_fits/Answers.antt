use Prim.Native.Nat.{◌+◌, ◌*◌}
use mathlib.Core.Path.{◌≡◌, ◌∙◌}
use native.Mathlib.Omega.{arith}
use Rattle.block_test.specs.Sweep.{sound_test}
use Rattle.block_test.proofs.full_fits.Goals as goal

pub loop-t-init : goal.loop-t-init
loop-t-init c =
    let n = c.none-seen.ensures in
    (omega arith, c.new-sums.ensures c.args.block.now, omega arith, n.0, n.1)

pub fill-requires : goal.fill-requires
fill-requires c = (omega arith, omega arith, omega arith, c.loop-t.invariant.1)

pub loop-t-preserved : goal.loop-t-preserved
loop-t-preserved c =
    let l = c.loop-t in
    let s = c.up_to-seen.ensures in
    let e : (l.t + 1) * 8 ≡ l.t * 8 + 8 = omega arith in
    (omega arith, rw e c.fill.ensures, omega (arith, s.2), s.0 ∙ l.invariant.3, s.1 ∙ l.invariant.4)

pub fill-requires-2 : goal.fill-requires-2
fill-requires-2 c =
    let l = c.loop-t in
    let e : l.t ≡ 3 = omega arith in
    (omega arith, omega arith, omega arith, rw e at l.invariant.1)

pub returns : goal.returns
unfolding sound_test
returns c =
    let i = c.loop-t.invariant in
    let f = rw (i.3, i.4) at c.fit.ensures in
    rw (f, c.sealed_columns.ensures)
