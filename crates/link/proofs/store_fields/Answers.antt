use Prim.Native.Nat.{ℕ, ◌+◌}
use mathlib.Core.Path.{◌≡◌, refl, ◌∙◌}
use mathlib.Core.List.{List, [], ◌∷◌, ◌++◌, append-nil}
use native.Mathlib.Omega.{arith}
use lib.ListN.{length, drop, set, length-set, drop_of_length-le}
use Rattle.codec.specs.Num.{bytes_of, nums_of}
use Rattle.codec.specs.Splice.{splice}
use Rattle.codec.proofs.NumLaws.{nums_length}
use Rattle.codec.proofs.SpliceLaws.{splice_more}
use Rattle.link.proofs.store_fields.Goals as goal

-- the first byte over a list that is written behind it
front-set : (l vs d : List ℕ) (b : ℕ) → d ≡ splice l 1 vs → length l ≡ 1 + length vs → set d 0 b ≡ b ∷ vs
front-set [] vs d b e n = absurd (omega arith)
front-set (x ∷ l) vs d b e n =
    let z : drop (1 + length vs) (x ∷ l) ≡ [] = drop_of_length-le (x ∷ l) {i = 1 + length vs} (omega arith) in
    rw (e, z, append-nil)

pub shape_of-part : goal.shape_of-part
shape_of-part c = simp length-set (omega arith)

pub returns : goal.returns
returns c =
    let l = c.args.part.now in
    let n : length l ≡ 21 = c.requires in
    let g : List ℕ = bytes_of 4 c.args.register in
    let v : List ℕ = nums_of 2 8 c.args.counts in
    let m : length v ≡ 16 = nums_length 2 8 c.args.counts in
    let d : c.put_row.new.d ≡ splice l 1 (g ++ v) = c.put_row.ensures ∙ rw c.put.ensures (splice_more l 1 g (omega arith) 5 v refl) in
    front-set l (g ++ v) c.put_row.new.d c.args.kind d (omega arith)
