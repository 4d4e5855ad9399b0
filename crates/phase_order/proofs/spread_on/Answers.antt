use Prim.Native.Nat.{ℕ, ◌+◌, ◌*◌, ◌≤◌}
use mathlib.Core.Path.{◌≡◌, ◌∙◌}
use mathlib.Core.List.{◌++◌}
use native.Mathlib.Omega.{arith}
use lib.ListN.{length, take, drop, length-take}
use lib.Seq.{length_front}
use Rattle.phase_order.proofs.spread_on.Goals as goal
use Rattle.phase_order.proofs.spread_on.Goals.{After-min-n, After-spread_in}

-- ---- where the number of phases is known
module _ (c : goal.After-min-n) where
  abbrev n : ℕ
  n = c.min-n.result * 8

  fits : n ≤ length c.args.table.now
  fits = omega (arith, c.min-n.ensures)

  some : 8 ≤ n
  some = omega (arith, c.min-n.ensures, c.min-most.ensures, c.requires.0, c.requires.1, c.requires.2)

  before : c.args.from * 8 + n ≤ c.args.until * 8
  before = omega (arith, c.min-n.ensures, c.min-most.ensures, c.requires.0)

  long : length (take (n) c.args.table.now) ≡ n
  long = length-take (n) c.args.table.now ∙ omega (arith, fits)

-- ---- where they have been looked at
module _ (c : goal.After-spread_in) where
  same : length (c.spread_in.new.table ++ drop (c.min-n.result * 8) c.args.table.now) ≡ length c.args.table.now
  same = length_front c.args.table.now c.spread_in.new.table (c.min-n.result * 8) c.spread_in.ensures.0

pub overflow_mul-n : goal.overflow_mul-n
overflow_mul-n c = omega (arith, fits (goal.at.overflow_mul-n c).After-min-n)

pub slice_bounds-spread_in-end : goal.slice_bounds-spread_in-end
slice_bounds-spread_in-end c = omega (arith, fits (goal.at.slice_bounds-spread_in-end c).After-min-n)

pub spread_in-requires : goal.spread_in-requires
spread_in-requires c =
    let p = (goal.at.spread_in-requires c).After-min-n in
    (omega (arith, long p, some p), omega (arith, long p, before p))

pub shape_of-table : goal.shape_of-table
shape_of-table c = same (goal.at.shape_of-table c).After-spread_in

pub returns : goal.returns
returns c =
    let p = (goal.at.returns c).After-min-n in
    let r = c.spread_in.ensures in
    (same (goal.at.returns c).After-spread_in, r.1, omega (arith, r.2, long p, before p), r.3)
