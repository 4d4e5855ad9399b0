use Prim.Native.Nat.{◌≤◌}
use mathlib.Core.Path.{refl}
use mathlib.Core.List.{[], ◌∷◌}
use native.Mathlib.Omega.{arith}
use lib.ListN.{length}
use Rattle.codec.specs.Num.{bytes_of, nums_of}
use Rattle.codec.proofs.NumLaws.{nums_length}
use Rattle.codec.proofs.SpliceLaws.{first, next}
use Rattle.record.specs.Record.{image_record}
use Rattle.record.proofs.store.Goals as goal

pub returns : goal.returns
unfolding image_record
returns c =
    let n : 32 ≤ length c.args.d.now = c.requires in
    let v = c.args.r in
    let w1 = first c.args.d.now (v.kind ∷ v.station ∷ v.peer ∷ 0 ∷ []) c.store_front.new.d 4 refl c.store_front.ensures in
    let w2 = next (bytes_of 4 v.phase) c.put.new.d 4 w1 (omega arith) refl c.put.ensures in
    let w3 = next (bytes_of 4 v.register) c.put-2.new.d 4 w2 (omega arith) refl c.put-2.ensures in
    let w4 = next (bytes_of 4 0) c.put-3.new.d 4 w3 (omega arith) refl c.put-3.ensures in
    let w5 = next (nums_of 2 8 v.counts) c.put_row.new.d 16 w4 (omega arith) (nums_length 2 8 v.counts) c.put_row.ensures in
    w5.is
