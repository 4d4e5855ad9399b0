use Prim.Native.Nat.{suc}
use mathlib.Core.Path.{sym}
use native.Mathlib.Numerals.{add-one}
use native.Mathlib.Omega.{arith}
use lib.ListN.{get_or}
use Rattle.codec.proofs.PutLaws.{put-set}
use Rattle.clock.proofs.MergeLaws.{merged-length}
use Rattle.clock.specs.Timestamp.{merged}
use Rattle.clock.proofs.raise.Goals as goal

pub returns : goal.returns
returns c =
    let a = c.args in
    rw (c.merge-r.ensures, add-one) (sym (put-set 0 (merged a.a a.b) a.i (suc (get_or a.a a.i 0)) (omega (arith, merged-length a.a a.b))))
