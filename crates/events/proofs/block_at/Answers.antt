use native.Mathlib.Omega.{arith}
use Rattle.archive.specs.Archive.{blocks}
use Rattle.events.proofs.Laws.{block_part}
use Rattle.events.proofs.block_at.Goals as goal

pub overflow_add-o : goal.overflow_add-o
unfolding blocks
overflow_add-o c = omega arith

pub overflow_mul-o : goal.overflow_mul-o
unfolding blocks
overflow_mul-o c = omega arith

pub overflow_add-result : goal.overflow_add-result
unfolding blocks
overflow_add-result c = omega arith

pub slice_bounds-result-end : goal.slice_bounds-result-end
unfolding blocks
slice_bounds-result-end c = omega arith

pub returns : goal.returns
returns c = block_part _ _
