use native.Mathlib.Omega.{arith}
use Rattle.turnover_input.proofs.KeptLaws.{kept_more, kept_full}
use Rattle.turnover_input.proofs.line.Line.keep.Goals as goal

pub returns-then-self-lt-LINE_SIZE : goal.returns-then-self-lt-LINE_SIZE
returns-then-self-lt-LINE_SIZE c = let a = c.args in λ t k. kept_more a.self.now.bytes t a.self.now.have a.b (omega arith) (omega arith) k

pub returns-else-self-lt-LINE_SIZE : goal.returns-else-self-lt-LINE_SIZE
returns-else-self-lt-LINE_SIZE c = let a = c.args in λ t k. kept_full a.self.now.bytes t a.self.now.have a.b (omega arith) (omega arith) k
