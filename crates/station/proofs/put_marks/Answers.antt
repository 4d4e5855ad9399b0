use Prim.Native.Nat.{ℕ}
use mathlib.Core.Path.{◌≡◌, refl, ◌∙◌, sym, ap}
use mathlib.Core.Bool.{Bool, true, false}
use mir.Val.{bool_byte}
use native.Mathlib.Omega.{arith}
use mathlib.Core.List.{List}
use lib.ListN.{get_or, length-set}
use Rattle.codec.specs.Splice.{splice}
use Rattle.codec.proofs.SpliceLaws.{splice_none}
use Rattle.codec.proofs.Stride.{made_turn, upto_none}
use Rattle.station.specs.Image.{mark_byte, marks_of}
use Rattle.station.proofs.put_marks.Goals as goal

byte_is : (b : Bool) → bool_byte b ≡ mark_byte b
byte_is true = refl
byte_is false = refl

pub loop-j-init : goal.loop-j-init
loop-j-init c = (omega arith, refl, sym (ap (λ (v : List ℕ). splice c.args.part.now c.args.at v) (upto_none _) ∙ splice_none c.args.part.now c.args.at))

pub loop-j-preserved : goal.loop-j-preserved
loop-j-preserved c =
    let l = c.loop-j in
    let a = c.args in (
      omega arith,
      simp length-set (omega arith),
      rw (c.from.ensures ∙ byte_is _) (made_turn a.part.now l.part (λ (k : ℕ). mark_byte (get_or a.marks k false)) a.at l.j (omega arith) l.invariant.2),
    )

pub returns : goal.returns
unfolding marks_of
returns c = let e : c.loop-j.j ≡ 8 = omega arith in rw e at c.loop-j.invariant.2
