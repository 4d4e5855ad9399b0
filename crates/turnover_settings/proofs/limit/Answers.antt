use Prim.Native.Nat.{◌+◌, ◌*◌}
use native.Mathlib.Numerals.{add-one}
use native.Mathlib.Omega.{arith}
use lib.Dec.{ltb}
use lib.Seq.{set_split}
use borrow.Author.Tests.{ltb-true}
use Rattle.codec.proofs.EveryLaws.{both}
use Rattle.turnover_settings.specs.Settings.{limit_set}
use Rattle.turnover_settings.proofs.limit.Goals as goal

pub returns-then-from-to : goal.returns-then-from-to
unfolding limit_set
returns-then-from-to c =
    let a = c.args in
    let h = both (ltb a.from 8) (ltb a.to 8) c.if-from-to.true in
    rw (c.from.ensures, c.from-then-from-to.ensures, c.if-from-to.true, set_split a.block.now (32 + 8 * a.from + a.to) a.limit (omega (arith, ltb-true a.from 8 h.0, ltb-true a.to 8 h.1)), add-one)

pub returns-else-from-to : goal.returns-else-from-to
unfolding limit_set
returns-else-from-to c = rw c.if-from-to.false
