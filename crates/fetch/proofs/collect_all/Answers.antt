use mathlib.Core.Path.{◌≡◌, refl, ap, ◌∙◌}
use native.Mathlib.Omega.{arith}
use lib.ListN.{length}
use Rattle.archive.specs.Archive.{block_of, blocks}
use Rattle.archive.proofs.Laws.{test-long}
use Rattle.events.proofs.Laws.{block-length}
use Rattle.fetch.specs.Fetch.{copied}
use Rattle.fetch.proofs.Laws.{copied-long, fetched_none, fetched_more, fetched-skips}
use Rattle.fetch.proofs.collect_all.Goals as goal

pub overflow_sub-blocks : goal.overflow_sub-blocks
overflow_sub-blocks c = omega (arith, test-long _ c.args.archive.tested)

pub loop-b-init : goal.loop-b-init
loop-b-init c = record { below = omega arith; few = omega arith; long = refl; is = fetched_none _ _ _ }

pub next_block-requires : goal.next_block-requires
unfolding blocks
next_block-requires c = c.loop-b.invariant.below

pub block_at-requires : goal.block_at-requires
unfolding blocks
block_at-requires c = c.in-Some.ensures.1

pub collect-count-requires : goal.collect-count-requires
unfolding blocks
collect-count-requires c =
    let i = c.loop-b.invariant in
    (rw c.block_at.ensures (block-length c.args.archive.bytes.now c.in-Some.b c.in-Some.ensures.1), omega (arith, i.long), omega (arith, i.few, i.below))

pub loop-b-preserved : goal.loop-b-preserved
unfolding blocks
loop-b-preserved c =
    let a = c.args.archive.bytes.now in
    let l = c.args.numbers.now in
    let d = c.args.copies.now in
    let b = c.in-Some.b in
    let i = c.loop-b.invariant in
    let w = c.in-Some.ensures in
    let m : c.collect-count.new.copies ≡ copied (block_of a b) l c.loop-b.copies (length l) = rw c.block_at.ensures at c.collect-count.ensures.1 in
    record {
      below = omega (arith, w.1);
      few = omega (arith, i.few, c.collect-count.ensures.0, w.0);
      long = ap length m ∙ (copied-long (block_of a b) l c.loop-b.copies (length l) (block-length a b w.1) (omega (arith, i.long)) ∙ i.long);
      is = fetched_more a l d b w.2 ∙ rw (fetched-skips a l d c.loop-b.from b w.0 (λ j h g. w.3 j h g), i.is, m, c.collect-count.ensures.0);
    }

pub returns : goal.returns
unfolding blocks
returns c =
    let a = c.args.archive.bytes.now in
    let i = c.loop-b.invariant in
    let e = fetched-skips a c.args.numbers.now c.args.copies.now c.loop-b.from _ i.below (λ j h g. c.in_default.ensures j h g) ∙ i.is in
    rw e (refl, refl)
