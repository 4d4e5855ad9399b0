use Prim.Native.Nat.{ℕ, ◌-◌, ◌/◌, ◌≤◌}
use mathlib.Core.Path.{◌≡◌, refl, ◌∙◌, ap}
use native.Mathlib.Omega.{arith}
use mathlib.Core.List.{List, [], ◌∷◌}
use lib.ListN.{length, take}
use lib.Seq.{take_at}
use Rattle.codec.specs.Num.{bytes_of}
use Rattle.codec.specs.Every.{blank}
use Rattle.checksum.specs.Check.{seal_of}
use Rattle.codec.proofs.BlankLaws.{blank-length}
use Rattle.codec.proofs.SpliceLaws.{first, next}
use Rattle.entries.specs.Entries.{entries_body, image_entries}
use Rattle.entries.proofs.Laws.{body_length}
use Rattle.entries.proofs.store.Goals as goal

pub returns : goal.returns
unfolding image_entries entries_body
returns c =
    let n : length c.args.d.now ≡ 512 = c.requires.0 in
    let rs = c.args.rs.now in
    let m : length rs ≤ 480 = c.requires.1 in
    let w1 = first c.args.d.now (2 ∷ length rs / 32 ∷ 0 ∷ 0 ∷ []) c.put_bytes.new.d 4 refl c.put_bytes.ensures in
    let w2 = next (bytes_of 4 c.args.number) c.put.new.d 4 w1 (omega arith) refl c.put.ensures in
    let w3 = next (blank 8) c.put_zeros.new.d 8 w2 (omega arith) (blank-length 8) c.put_zeros.ensures in
    let w4 = next rs c.put_bytes-2.new.d (length rs) w3 (omega arith) refl c.put_bytes-2.ensures in
    let w5 = next (blank (494 - length rs)) c.put_zeros-2.new.d (494 - length rs) w4 (omega arith) (blank-length (494 - length rs)) c.put_zeros-2.ensures in
    c.seal.ensures ∙ ap seal_of (ap (λ (l : List ℕ). take 510 l) w5.is ∙ take_at (entries_body c.args.number rs) _ 510 (body_length c.args.number rs m))
