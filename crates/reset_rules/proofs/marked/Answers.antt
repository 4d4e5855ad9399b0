use mathlib.Core.Path.{sym}
use mathlib.Core.Bool.{true, false}
use native.Mathlib.Omega.{arith}
use Rattle.codec.proofs.PutLaws.{put-set}
use Rattle.reset_rules.proofs.marked.Goals as goal

pub returns : goal.returns
returns c = let a = c.args in sym (put-set false a.marks a.j true (omega arith))
