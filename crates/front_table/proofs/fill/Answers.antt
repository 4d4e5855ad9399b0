use Prim.Native.Nat.{◌+◌, ◌*◌}
use mathlib.Core.Path.{◌≡◌, ◌∙◌, sym}
use native.Mathlib.Omega.{arith}
use Rattle.record.specs.Record.{kind_byte}
use Rattle.header.specs.Header.{table_at}
use Rattle.front_table.specs.Fronts.{may_stand, front_of}
use Rattle.front_table.proofs.TableLaws.{linked_at, kind-high, row_none, row_more}
use Rattle.front_table.proofs.fill.Goals as goal
use Rattle.front_table.proofs.fill.Goals.{then-stands, else-stands}

pub loop-s-init : goal.loop-s-init
loop-s-init c =
    let a = c.args in
    (omega arith, row_none a.n (table_at 8 a.head.now 32) (kind_byte a.kind * 8 + a.p) a.r.now)

pub limit-requires : goal.limit-requires
limit-requires c = (c.requires.1, omega arith, omega arith)

pub loop-s-preserved : goal.loop-s-preserved
unfolding may_stand
loop-s-preserved c =
    let a = c.args in
    let l = c.loop-s in
    let m = table_at 8 a.head.now 32 in
    let n = a.n in
    let k = kind_byte a.kind in
    let q : c.from-number.result ≡ k = c.from-number.ensures ∙ c.from.ensures in
    let e = linked_at k l.s a.p (omega arith) (kind-high a.kind) (omega arith) (omega arith) n m in
    let x : c.if-stands.front ≡ front_of n m ((k * 8 + a.p) * 8 + l.s) =
    elim c.if-stands.branch [
      | then-stands w ↦ let t = rw (c.limit.ensures, c.from-top.ensures) at w.if-stands.true in (rw q at w.front-is) ∙ sym (rw t at e)
      | else-stands w ↦ let t = rw (c.limit.ensures, c.from-top.ensures) at w.if-stands.false in w.front-is ∙ sym (rw t at e)
    ]
    in
    let h = kind-high a.kind in
    rw q (omega arith, row_more n m (k * 8 + a.p) l.s a.r.now l.r c.if-stands.front (omega arith) (omega arith) x l.invariant.1)

pub returns : goal.returns
returns c =
    let e : c.loop-s.s ≡ 8 = omega arith in
    rw e at c.loop-s.invariant.1
