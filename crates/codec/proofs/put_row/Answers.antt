use Prim.Native.Nat.{◌+◌, ◌*◌}
use mathlib.Core.Path.{◌≡◌, refl, sym}
use native.Mathlib.Omega.{arith}
use Rattle.codec.proofs.NumLaws.{nums_turn}
use Rattle.codec.proofs.SpliceLaws.{splice_none}
use Rattle.codec.proofs.put_row.Goals as goal

pub loop-i-init : goal.loop-i-init
loop-i-init c = (omega arith, refl, sym (splice_none _ c.args.at))

pub loop-i-preserved : goal.loop-i-preserved
loop-i-preserved c =
    let a = c.args in
    let l = c.loop-i in (
      omega arith,
      omega (arith, c.put.auto.d),
      nums_turn 2 a.d.now a.c _ _ a.at l.i (a.at + 2 * l.i) (omega arith) (omega arith) l.invariant.2 c.put.ensures,
    )

pub returns : goal.returns
returns c =
    let e : c.loop-i.i ≡ 8 = omega arith in
    rw e at c.loop-i.invariant.2
