use native.Mathlib.Omega.{arith}
use lib.ListN.{length}
use Rattle.melontime.proofs.Archives.{listed_small, listing}
use Rattle.melontime.proofs.melontime_unordered.Goals as goal

pub counted_number-requires : goal.counted_number-requires
counted_number-requires c =
    let g = c.args in
    rw c.unordered.ensures.answers (listed_small g.archive.now g.number (length g.list.now) (omega arith))

pub returns : goal.returns
returns c = listing c.unordered.ensures c.counted_number.ensures
