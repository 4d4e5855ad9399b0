use native.Mathlib.Omega.{arith}
use mathlib.Core.Path.{◌≡◌, sym, ◌∙◌, refl}
use mathlib.Core.Bool.{true≢false}
use Rattle.archive.specs.Archive.{records}
use Rattle.well_kept.proofs.RisingLaws.{rising_none, rising_more, rising_kept}
use Rattle.well_kept.proofs.in_order.Goals as goal

pub loop-p-init : goal.loop-p-init
loop-p-init c =
    let o = c.of-p-items.ensures in
    let i = c.into_iter-p-iterator.ensures.into_iter_gives in
    rw i (o.1, omega arith, rw o.0 (rising_none _))

pub key_of-key-requires : goal.key_of-key-requires
key_of-key-requires c = omega (arith, c.in-Some.ensures.steps.1.1, c.loop-p.invariant.0)

pub returns-then-not-follows : goal.returns-then-not-follows
returns-then-not-follows c h = absurd (true≢false (sym h))

pub loop-p-preserved : goal.loop-p-preserved
loop-p-preserved c =
    let n = c.in-Some.ensures.steps in (
      n.0 ∙ c.loop-p.invariant.0,
      omega (arith, n.0, n.1.1, n.1.2),
      rw n.1.2 (rising_more _ (rw (sym n.1.0) at c.loop-p.invariant.2) _ _ c.key_of-key.ensures.0 refl (sym c.follows.ensures ∙ c.if-not-follows.false)),
    )

pub returns : goal.returns
returns c h =
    let a = c.args.archive in
    let e : c.loop-p.p-iterator.first.number ≡ records a.bytes.now = omega (arith, c.in-None.ensures.steps.1) in
    rising_kept a.bytes.now a.tested a.fit (rw e at c.loop-p.invariant.2)
