use mathlib.Core.List.{[], ◌∷◌}
use native.Mathlib.Omega.{arith}
use Rattle.codec.proofs.Stores.{stored}
use Rattle.header.proofs.store_front.Goals as goal

pub returns : goal.returns
returns c = stored (1 ∷ c.args.n ∷ []) c.args.d.now 0 (omega arith)
