use native.Mathlib.Omega.{arith}
use Rattle.receipts.proofs.controls_left.Goals as goal

-- what is taken off stops at 0, twice
pub returns : goal.returns
returns c = (omega arith, omega arith)
