use Prim.Native.Nat.{◌+◌}
use mathlib.Core.Path.{◌≡◌}
use native.Mathlib.Omega.{arith}
use Rattle.codec.specs.Num.{bytes_of}
use Rattle.codec.proofs.Stores.{stored}
use Rattle.codec.proofs.U32Number.put.Goals as goal

pub returns : goal.returns
returns c =
    let at = c.args.at in
    let e : at + 1 + 1 ≡ at + 2 = omega arith in
    let f : at + 1 + 1 + 1 ≡ at + 3 = omega arith in
    rw (f, e) at (stored (bytes_of 4 c.args.self) c.args.d.now at c.requires)
