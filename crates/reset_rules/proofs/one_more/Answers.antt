use Prim.Native.Nat.{suc}
use mathlib.Core.Path.{sym}
use native.Mathlib.Numerals.{add-one}
use native.Mathlib.Omega.{arith}
use lib.ListN.{get_or}
use Rattle.codec.proofs.PutLaws.{put-set}
use Rattle.reset_rules.proofs.one_more.Goals as goal

pub returns : goal.returns
returns c = let a = c.args in rw add-one (sym (put-set 0 a.sent a.j (suc (get_or a.sent a.j 0)) (omega arith)))
