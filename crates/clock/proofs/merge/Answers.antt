use mathlib.Core.Path.{◌≡◌, refl}
use mathlib.Core.List.{[], append-nil}
use native.Mathlib.Omega.{arith}
use lib.ListN.{drop_of_length-le, length, take, drop}
use lib.Seq.{take_all}
use Rattle.codec.proofs.CopyLaws.{copy_turn}
use Rattle.clock.proofs.MergeLaws.{merged_at, merged-length}
use Rattle.clock.specs.Timestamp.{merged}
use Rattle.clock.proofs.merge.Goals as goal

pub loop-i-init : goal.loop-i-init
loop-i-init c = (omega arith, refl)

pub loop-i-preserved : goal.loop-i-preserved
loop-i-preserved c =
    let a = c.args in
    let l = c.loop-i in
    let n : length a.a ≡ 8 = omega arith in
    (omega arith, rw (l.invariant.1, c.max.ensures, ← merged_at a.a a.b l.i (omega arith)) (copy_turn a.a (merged a.a a.b) l.i (omega (arith, merged-length a.a a.b)) (omega arith)))

pub returns : goal.returns
returns c =
    let a = c.args in
    let l = c.loop-i in
    let e : l.i ≡ 8 = omega arith in
    let t : take 8 (merged a.a a.b) ≡ merged a.a a.b = take_all 8 (merged a.a a.b) (omega (arith, merged-length a.a a.b)) in
    let d : drop 8 a.a ≡ [] = drop_of_length-le a.a {i = 8} (omega arith) in
    rw (l.invariant.1, e, t, d) (append-nil (merged a.a a.b))
