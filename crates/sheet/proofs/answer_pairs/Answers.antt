use Prim.Native.Nat.{◌+◌, ◌/◌, ◌≤◌}
use mathlib.Core.Path.{◌≡◌, refl, ap}
use native.Mathlib.Omega.{arith}
use lib.ListN.{length}
use borrow.Author.Tests.{lt-ltb, le-ltb}
use Rattle.std.specs.Prelude.{Ok}
use Rattle.codec.specs.Every.{blank}
use Rattle.sheet.specs.Sheet.{pairs_answer, gathered}
use Rattle.sheet.proofs.Laws.{copies-sound, verdicts-length}
use Rattle.sheet.proofs.answer_pairs.Goals as goal

pub returns-then-answers-n : goal.returns-then-answers-n
unfolding pairs_answer
returns-then-answers-n c = rw (lt-ltb _ _ c.if-answers-n.true) (refl, refl)

pub invariant_of-copies : goal.invariant_of-copies
unfolding gathered blank
invariant_of-copies c =
    let a = c.args.archive in
    let l = c.args.numbers.now in
    let e : c.collect_all-count.new.copies ≡ (gathered a.bytes.now l).copies = c.collect_all-count.ensures.1 in
    let n : length c.collect_all-count.new.copies ≡ 4096 = c.collect_all-count.auto.copies in
    record { sound = rw e (copies-sound a.bytes.now l a.tested c.requires.0 c.requires.1 (omega (arith, ap length e)) (length l) (omega arith)) }

pub returns : goal.returns
unfolding pairs_answer gathered blank
returns c =
    let a = c.args.archive.bytes.now in
    let l = c.args.numbers.now in
    let n : length l / 2 ≤ length c.args.answers.now = omega arith in
    let e : c.collect_all-count.new.copies ≡ (gathered a l).copies = c.collect_all-count.ensures.1 in
    let f : c.collect_all-count.result ≡ (gathered a l).count = c.collect_all-count.ensures.0 in
    let z : 0 + length l / 2 ≡ length l / 2 = omega arith in
    rw (le-ltb (length c.args.answers.now) (length l / 2) n) (ap Ok f, rw (verdicts-length, e, z) at c.put_verdicts.ensures)
