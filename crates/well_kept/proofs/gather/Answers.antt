use native.Mathlib.Omega.{arith}
use mathlib.Core.Path.{◌≡◌, sym, ◌∙◌, refl}
use Rattle.archive.specs.Archive.{blocks, records}
use Rattle.archive.proofs.Tested.{records-most}
use Rattle.well_kept.proofs.WindowLaws.{keys_most, gathered_none}
use Rattle.well_kept.proofs.gather.Goals as goal

pub loop-p-init : goal.loop-p-init
loop-p-init c =
    let o = c.of-p-items.ensures in
    let i = c.into_iter-p-iterator.ensures.into_iter_gives in
    rw i (o.1, omega arith, refl, rw o.0 (gathered_none _ _ _ _ c.requires))

pub key_of-requires : goal.key_of-requires
key_of-requires c = omega (arith, c.in-Some.ensures.steps.1.1, c.loop-p.invariant.0)

pub with_key-w-requires : goal.with_key-w-requires
unfolding blocks
with_key-w-requires c =
    let a = c.args.archive in
    let n = c.in-Some.ensures.steps in
    omega (arith, c.loop-p.invariant.3.many, keys_most a.bytes.now c.args.lo c.args.hi c.loop-p.p-iterator.first.number, n.1.0, n.1.1, c.loop-p.invariant.0, records-most a.bytes.now a.tested, c.ranges.archive)

pub loop-p-preserved : goal.loop-p-preserved
loop-p-preserved c =
    let n = c.in-Some.ensures.steps in (
      n.0 ∙ c.loop-p.invariant.0,
      omega (arith, n.0, n.1.1, n.1.2),
      c.with_key-w.ensures.0 ∙ c.loop-p.invariant.2,
      rw n.1.2 (c.with_key-w.ensures.1 _ c.in-Some.p.number (sym c.key_of.ensures.0) (rw (sym n.1.0) at c.loop-p.invariant.3)),
    )

pub returns : goal.returns
returns c =
    let e : c.loop-p.p-iterator.first.number ≡ records c.args.archive.bytes.now = omega (arith, c.in-None.ensures.steps.1) in
    (c.loop-p.invariant.2, rw e at c.loop-p.invariant.3)
