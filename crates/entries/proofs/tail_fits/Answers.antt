use Prim.Native.Nat.{◌+◌}
use mathlib.Core.Path.{◌≡◌, sym}
use native.Mathlib.Omega.{arith}
use Rattle.entries.specs.Starts.{record_start}
use Rattle.entries.proofs.Laws.{tail_split}
use Rattle.entries.proofs.tail_fits.Goals as goal

pub returns : goal.returns
returns c =
    let a = c.args in
    let g : c.start_of-end.result + 32 ≡ record_start a.count = omega (arith, c.start_of-end.ensures) in
    let t = tail_split a.s.now (record_start a.count) (omega arith) in
    rw (rw g at c.zeros.ensures, c.zeros-2.ensures) (sym t)
