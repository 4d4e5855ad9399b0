use Prim.Native.Nat.{◌+◌, ◌*◌, ◌≤◌}
use native.Mathlib.Omega.{arith}
use lib.ListN.{length}
use Rattle.events.proofs.Laws.{place_long, place_part}
use Rattle.events.proofs.part_of.Goals as goal
use Rattle.events.proofs.part_of.Goals.{Start}

-- the block stands in the archive
long : (s : goal.Start) → (s.args.p.block + 1) * 512 + 512 ≤ length s.args.archive.bytes.now
long c =
    let p = c.args.p in
    place_long c.args.archive.bytes.now c.args.archive.tested p.number p.block p.at p.stands p.low c.requires

pub overflow_mul-o : goal.overflow_mul-o
overflow_mul-o c = omega (arith, long (goal.at.overflow_mul-o c).Start)

pub overflow_add-o-2 : goal.overflow_add-o-2
overflow_add-o-2 c = omega (arith, long (goal.at.overflow_add-o-2 c).Start)

pub overflow_add-result : goal.overflow_add-result
overflow_add-result c = omega (arith, long (goal.at.overflow_add-result c).Start)

pub slice_bounds-result-end : goal.slice_bounds-result-end
slice_bounds-result-end c = omega (arith, long (goal.at.slice_bounds-result-end c).Start)

pub returns : goal.returns
returns c =
    let p = c.args.p in
    place_part c.args.archive.bytes.now c.args.archive.tested p.number p.block p.at p.stands p.low c.requires _ c.start_of.ensures
