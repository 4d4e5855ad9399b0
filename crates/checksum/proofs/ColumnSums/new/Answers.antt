use Prim.Native.Nat.{ℕ, ◌<◌}
use mathlib.Core.Path.{refl}
use native.Mathlib.Omega.{arith}
use Rattle.checksum.proofs.ColumnSums.new.Goals as goal

pub returns : goal.returns
returns c = λ l. (refl, refl, λ (k : ℕ) (h : k < 0). absurd (omega arith))
