use Prim.Native.Nat.{ℕ, ◌+◌, ◌*◌, ◌-◌}
use mathlib.Core.Path.{◌≡◌, ◌∙◌, sym}
use native.Mathlib.Omega.{arith}
use lib.Dec.{eqb}
use lib.ListN.{length-take, length-drop}
use Rattle.codec.proofs.EveryLaws.{every_none, every_more, every_fails}
use Rattle.header.specs.Header.{parse_header, table_at}
use Rattle.block_test.specs.BlockTest.{block_fits}
use Rattle.archive.specs.Archive.{block_of, blocks_fit}
use Rattle.archive.proofs.blocks_fit.Goals as goal

pub loop-b-init : goal.loop-b-init
loop-b-init c = (omega arith, every_none _)

pub block_fits-requires : goal.block_fits-requires
block_fits-requires c =
    simp (length-take, length-drop) (omega arith)

pub returns-then-not-block_fits : goal.returns-then-not-block_fits
unfolding blocks_fit block_of
returns-then-not-block_fits c =
    let k = c.loop-b.b in
    let g = c.args in
    let e : (k + 1) * 512 + 512 - (k + 1) * 512 ≡ 512 = omega arith in
    let q : block_fits (parse_header g.allowed.now.head.now) (table_at 8 g.allowed.now.head.now 32) (k + 1) (eqb (k + 1) g.n) (block_of g.a.now k) ≡ c.block_fits.result = sym (rw e at c.block_fits.ensures) in
    sym (every_fails g.n (λ (m : ℕ). block_fits (parse_header g.allowed.now.head.now) (table_at 8 g.allowed.now.head.now 32) (m + 1) (eqb (m + 1) g.n) (block_of g.a.now m)) k (omega arith) (q ∙ c.if-not-block_fits.true))

pub loop-b-preserved : goal.loop-b-preserved
unfolding block_of
loop-b-preserved c =
    let k = c.loop-b.b in
    let g = c.args in
    let e : (k + 1) * 512 + 512 - (k + 1) * 512 ≡ 512 = omega arith in
    let q : block_fits (parse_header g.allowed.now.head.now) (table_at 8 g.allowed.now.head.now 32) (k + 1) (eqb (k + 1) g.n) (block_of g.a.now k) ≡ c.block_fits.result = sym (rw e at c.block_fits.ensures) in
    (omega arith, every_more k _ c.loop-b.invariant.1 (q ∙ c.if-not-block_fits.false))

pub returns : goal.returns
unfolding blocks_fit
returns c =
    let e : c.loop-b.b ≡ c.args.n = omega arith in
    sym (rw e at c.loop-b.invariant.1)
