use lib.ListN.{take}
use native.Mathlib.Omega.{arith}
use Rattle.header.proofs.Laws.{header-small}
use Rattle.area.specs.Layout.{config_at}
use Rattle.area.proofs.Exact.{tested}
use Rattle.step_parts.proofs.config.Config.read.Goals as goal

pub slice_bounds-block-end : goal.slice_bounds-block-end
slice_bounds-block-end c = let n = (tested _ c.requires).long in omega arith

pub invariant_of-result : goal.invariant_of-result
invariant_of-result c = record { few = rw c.load.ensures (header-small (take 512 c.args.area.now) (tested _ c.requires).head) }

pub returns-clause-header : goal.returns-clause-header
unfolding config_at
returns-clause-header c = c.load.ensures

pub returns-clause-limits : goal.returns-clause-limits
unfolding config_at
returns-clause-limits c = c.load_limits.ensures
