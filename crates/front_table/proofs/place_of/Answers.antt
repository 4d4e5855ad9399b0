use Rattle.front_table.specs.Fronts.{place_of}
use native.Mathlib.Omega.{arith}
use mathlib.Core.Path.{refl}
use Rattle.front_table.proofs.place_of.Goals as goal

pub returns : goal.returns
unfolding place_of
returns c = rw c.from.ensures (refl, omega arith)
