use Prim.Native.Nat.{ℕ, ◌+◌, ◌*◌, ◌-◌, ◌/◌}
use mathlib.Core.Path.{ap}
use native.Mathlib.Omega.{arith}
use borrow.Author.Tests.{eq-eqb, ne_eqb}
use lib.ListN.{length}
use Rattle.entries.proofs.Laws.{well_made-count}
use Rattle.archive.specs.Archive.{block_of, blocks, records}
use Rattle.archive.proofs.Laws.{test-long, block_parts, last_count}
use Rattle.archive.proofs.Archive.records.Goals as goal

pub overflow_sub-n : goal.overflow_sub-n
overflow_sub-n c = omega (arith, test-long c.args.self.bytes.now c.args.self.tested)

pub returns-then-n-eq0 : goal.returns-then-n-eq0
unfolding records blocks
returns-then-n-eq0 c = rw (eq-eqb _ 0 c.if-n-eq0.true)

pub overflow_add-result : goal.overflow_add-result
unfolding blocks
overflow_add-result c =
    let l = c.args.self.bytes.now in
    let w = well_made-count (block_of l (blocks l - 1)) (block_parts l c.args.self.tested (blocks l - 1) (omega arith)).0 in
    omega (arith, last_count l c.args.self.tested c.count_of.result (omega arith) c.count_of.ensures)

pub returns : goal.returns
unfolding records blocks
returns c =
    let l = c.args.self.bytes.now in
    rw (ne_eqb _ 0 c.if-n-eq0.false) (ap (λ (x : ℕ). (length l / 512 - 1 - 1) * 15 + x) (last_count l c.args.self.tested c.count_of.result (omega arith) c.count_of.ensures))
