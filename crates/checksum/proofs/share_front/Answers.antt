use Prim.Native.Nat.{◌+◌, ◌*◌, ◌≤◌}
use native.Mathlib.Omega.{arith}
use Rattle.checksum.proofs.ColumnLaws.{share_small, share_of_three}
use Rattle.checksum.proofs.share_front.Goals as goal

pub overflow_mul-result : goal.overflow_mul-result
overflow_mul-result c =
    let a = c.from-a.result in
    let b = c.from-b.result in
    let d = c.from-c.result in
    let j = c.args.j in
    let h : (j + 1) * (a + b + d) ≤ 24480 = share_small j (a + b + d) 765 (omega arith) (omega arith) in
    omega arith

pub overflow_add-result-5 : goal.overflow_add-result-5
overflow_add-result-5 c =
    let a = c.from-a.result in
    let b = c.from-b.result in
    let d = c.from-c.result in
    let j = c.args.j in
    let h : (j + 1) * (a + b + d) ≤ 24480 = share_small j (a + b + d) 765 (omega arith) (omega arith) in
    omega arith

pub returns : goal.returns
returns c =
    let a = c.from-a.result in
    let b = c.from-b.result in
    let d = c.from-c.result in
    let j = c.args.j in
    let h : (j + 1) * (a + b + d) ≤ 24480 = share_small j (a + b + d) 765 (omega arith) (omega arith) in
    let s = c.args.s.now in
    (share_of_three s j a b d c.from-a.ensures c.from-b.ensures c.from-c.ensures, omega arith)
