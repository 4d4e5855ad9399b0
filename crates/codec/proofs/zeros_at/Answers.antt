use Prim.Native.Nat.{◌+◌, ◌-◌}
use mathlib.Core.Path.{◌≡◌}
use native.Mathlib.Omega.{arith}
use Rattle.codec.proofs.zeros_at.Goals as goal

pub returns : goal.returns
returns g c =
    let at = c.args.at in
    let e : at + g.row.N - at ≡ g.row.N = omega arith in
    rw e at c.zeros.ensures
