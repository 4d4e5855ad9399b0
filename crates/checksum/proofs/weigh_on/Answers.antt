use Prim.Native.Nat.{◌<◌}
use mathlib.Core.Path.{◌≡◌, sym}
use native.Mathlib.Omega.{arith}
use lib.ListN.{length}
use Rattle.checksum.proofs.CheckLaws.{weighted_more, weight_small}
use Rattle.checksum.proofs.weigh_on.Goals as goal

pub loop-k-init : goal.loop-k-init
loop-k-init c = (omega arith, omega arith, c.requires.4)

pub overflow_mul-all : goal.overflow_mul-all
overflow_mul-all c = omega (arith, weight_small c.loop-k.k c.from.result (omega arith) (omega arith))

pub overflow_add-all-in-loop-k : goal.overflow_add-all-in-loop-k
overflow_add-all-in-loop-k c = omega (arith, weight_small c.loop-k.k c.from.result (omega arith) (omega arith))

pub loop-k-preserved : goal.loop-k-preserved
loop-k-preserved c =
    let l = c.loop-k in
    let s = c.args.s.now in
    let h : l.k < length s = omega arith in
    (omega arith, omega (arith, weight_small l.k c.from.result (omega arith) (omega arith)), rw (c.from.ensures, l.invariant.2) (sym (weighted_more s l.k h)))

pub returns : goal.returns
returns c =
    let l = c.loop-k in
    let e : l.k ≡ c.args.end = omega arith in
    (rw e at l.invariant.2, omega arith)
