use native.Mathlib.Omega.{arith}
use mathlib.Core.List.{[], ◌∷◌}
use lib.ListN.{length-set}
use Rattle.codec.proofs.Stores.{stored}
use Rattle.record.proofs.store_front.Goals as goal

pub bounds-d-1 : goal.bounds-d-1
bounds-d-1 c = simp length-set (omega arith)

pub bounds-d-2 : goal.bounds-d-2
bounds-d-2 c = simp length-set (omega arith)

pub bounds-d-3 : goal.bounds-d-3
bounds-d-3 c = simp length-set (omega arith)

pub returns : goal.returns
returns c = stored (c.args.kind ∷ c.args.station ∷ c.args.peer ∷ 0 ∷ []) c.args.d.now 0 (omega arith)
