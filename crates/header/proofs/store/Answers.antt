use Prim.Native.Nat.{ℕ}
use mathlib.Core.Path.{◌≡◌, refl, ◌∙◌, ap}
use mathlib.Core.List.{List, [], ◌∷◌}
use native.Mathlib.Omega.{arith}
use lib.ListN.{length, take}
use lib.Seq.{take_at}
use Rattle.codec.specs.Num.{bytes_of, nums_of}
use Rattle.codec.specs.Every.{blank}
use Rattle.checksum.specs.Check.{seal_of}
use Rattle.codec.proofs.NumLaws.{nums_length}
use Rattle.codec.proofs.BlankLaws.{blank-length}
use Rattle.codec.proofs.SpliceLaws.{first, next}
use Rattle.header.specs.Header.{table_of, header_body, image_header}
use Rattle.header.proofs.Laws.{table-length, body_length}
use Rattle.header.proofs.store.Goals as goal

pub returns : goal.returns
unfolding image_header header_body
returns c =
    let n : length c.args.d.now ≡ 512 = c.requires in
    let h = c.args.h in
    let m = c.args.limits in
    let w1 = first c.args.d.now (1 ∷ h.n ∷ []) c.store_front.new.d 2 refl c.store_front.ensures in
    let w2 = next (bytes_of 2 h.t) c.put.new.d 2 w1 (omega arith) refl c.put.ensures in
    let w3 = next (blank 12) c.put_zeros.new.d 12 w2 (omega arith) (blank-length 12) c.put_zeros.ensures in
    let w4 = next (nums_of 2 8 h.allowances) c.put_row.new.d 16 w3 (omega arith) (nums_length 2 8 h.allowances) c.put_row.ensures in
    let w5 = next (table_of m) c.store_limits.new.d 64 w4 (omega arith) (table-length m) c.store_limits.ensures in
    let w6 = next (blank 414) c.put_zeros-2.new.d 414 w5 (omega arith) (blank-length 414) c.put_zeros-2.ensures in
    c.seal.ensures ∙ ap seal_of (ap (λ (l : List ℕ). take 510 l) w6.is ∙ take_at (header_body h m) _ 510 (body_length h m))
