use Prim.Native.Nat.{ℕ, ◌%◌}
use mathlib.Core.Path.{◌≡◌, sym}
use native.Mathlib.Omega.{arith}
use lib.Dec.{ltb}
use lib.ListN.{length, get_or}
use borrow.Author.Tests.{lt-ltb, le-ltb, eq-eqb, ne_eqb}
use mathlib.Core.Bool.{and-false}
use Rattle.codec.proofs.EveryLaws.{every_none, every_more, every_fails}
use Rattle.archive.specs.Archive.{records}
use Rattle.sheet.specs.Sheet.{all_named}
use Rattle.sheet.proofs.all_named.Goals as goal

pub returns-then-numbers-ne0 : goal.returns-then-numbers-ne0
unfolding all_named
returns-then-numbers-ne0 c = rw (ne_eqb (length c.args.numbers.now % 2) 0 c.if-numbers-ne0.true)

pub loop-number-init : goal.loop-number-init
loop-number-init c = every_none _

pub returns-then-n-number : goal.returns-then-n-number
unfolding all_named
returns-then-n-number c =
    let l = c.args.numbers.now in
    let r = records c.args.archive.bytes.now in
    rw (every_fails (length l) (λ (i : ℕ). ltb (get_or l i 0) r) c.loop-number.number-index (omega arith) (le-ltb (get_or l c.loop-number.number-index 0) r (omega (arith, c.records-n.ensures)))) (sym (and-false _))

pub loop-number-preserved : goal.loop-number-preserved
loop-number-preserved c =
    let l = c.args.numbers.now in
    let r = records c.args.archive.bytes.now in
    every_more c.loop-number.number-index (λ (i : ℕ). ltb (get_or l i 0) r) c.loop-number.invariant (lt-ltb (get_or l c.loop-number.number-index 0) r (omega (arith, c.records-n.ensures)))

pub returns : goal.returns
unfolding all_named
returns c =
    let e : c.loop-number.number-index ≡ length c.args.numbers.now = omega arith in
    rw (eq-eqb (length c.args.numbers.now % 2) 0 (omega arith)) (sym (rw e at c.loop-number.invariant))
