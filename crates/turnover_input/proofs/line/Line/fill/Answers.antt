use Prim.Native.Nat.{◌+◌}
use native.Mathlib.Omega.{arith}
use Rattle.turnover_input.proofs.FieldLaws.{tail}
use Rattle.turnover_input.proofs.FillLaws.{filling_more, filled_whole, filled_part}
use Rattle.turnover_input.proofs.line.Line.fill.Goals as goal

pub returns-then-b-eq10 : goal.returns-then-b-eq10
returns-then-b-eq10 c = filled_whole c.loop-i.invariant _ (omega arith) c.if-b-eq10.true (tail c.args.bytes.now (c.loop-i.i + 1))

pub loop-i-preserved : goal.loop-i-preserved
loop-i-preserved c = filling_more c.loop-i.invariant _ (omega arith) c.if-b-eq10.false c.keep.ensures

pub returns : goal.returns
returns c = filled_part c.loop-i.invariant (omega arith)
