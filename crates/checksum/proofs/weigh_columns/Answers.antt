use mathlib.Core.Path.{◌≡◌, ◌∙◌, sym}
use native.Mathlib.Omega.{arith}
use Rattle.checksum.specs.Columns.{column_share}
use Rattle.checksum.proofs.ColumnLaws.{no_columns, columns_more, columns_are}
use Rattle.checksum.proofs.weigh_columns.Goals as goal

pub loop-k-init : goal.loop-k-init
loop-k-init c = (omega arith, omega arith, sym (no_columns 15 c.args.s.now))

pub share-sum-requires : goal.share-sum-requires
share-sum-requires c = let f = c.requires.1.2 c.loop-k.k (omega arith) in (omega arith, f.2, f.3)

pub loop-k-preserved : goal.loop-k-preserved
unfolding column_share
loop-k-preserved c =
    let l = c.loop-k in
    let s = c.args.s.now in
    let f = c.requires.1.2 l.k (omega arith) in
    let e = rw (f.0, f.1) at c.share-sum.ensures.0 in
    (omega arith, omega arith, omega (arith, columns_more 15 l.k s))

pub weigh_on-requires : goal.weigh_on-requires
weigh_on-requires c =
    let l = c.loop-k in
    let e : l.k ≡ 32 = omega arith in
    (omega arith, omega arith, omega arith, omega arith, (rw e at l.invariant.2) ∙ columns_are 15 c.args.s.now (omega arith))

pub returns : goal.returns
returns c = (c.weigh_on.ensures.0, omega arith)
