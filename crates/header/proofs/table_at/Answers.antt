use Prim.Native.Nat.{◌+◌}
use mathlib.Core.Path.{◌≡◌}
use native.Mathlib.Omega.{arith}
use Rattle.header.specs.Header.{table_at}
use Rattle.header.proofs.table_at.Goals as goal

pub returns : goal.returns
unfolding table_at
returns c =
    let at = c.args.at in
    let b : at + 16 ≡ at + 8 + 8 = omega arith in
    let d : at + 24 ≡ at + 8 + 8 + 8 = omega arith in
    let e : at + 32 ≡ at + 8 + 8 + 8 + 8 = omega arith in
    let f : at + 40 ≡ at + 8 + 8 + 8 + 8 + 8 = omega arith in
    let g : at + 48 ≡ at + 8 + 8 + 8 + 8 + 8 + 8 = omega arith in
    let h : at + 56 ≡ at + 8 + 8 + 8 + 8 + 8 + 8 + 8 = omega arith in
    rw (c.bytes_at.ensures, c.bytes_at-2.ensures, c.bytes_at-3.ensures, c.bytes_at-4.ensures, c.bytes_at-5.ensures, c.bytes_at-6.ensures, c.bytes_at-7.ensures, c.bytes_at-8.ensures, b, d, e, f, g, h)
