use mathlib.Core.Path.{◌∙◌, sym}
use native.Mathlib.Numerals.{add-one}
use native.Mathlib.Omega.{arith}
use Rattle.codec.proofs.PutLaws.{put-set}
use Rattle.clock.proofs.advance.Goals as goal

pub returns : goal.returns
returns c =
    sym (put-set 0 c.args.a c.args.i _ (omega arith) ∙ rw add-one)
