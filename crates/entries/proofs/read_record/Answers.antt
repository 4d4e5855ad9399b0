use Prim.Native.Nat.{◌+◌, ◌-◌}
use mathlib.Core.Path.{◌≡◌, refl, ◌∙◌, sym}
use native.Mathlib.Omega.{arith}
use borrow.Author.Tests.{lt-ltb, le-ltb}
use Rattle.entries.specs.Entries.{record_of, read_record}
use Rattle.entries.proofs.Laws.{well_made-length, well_made-count}
use Rattle.entries.proofs.read_record.Goals as goal

pub count_of-requires : goal.count_of-requires
count_of-requires c = well_made-length _ (sym c.well_made.ensures ∙ c.if-not-well_made.false)

pub start_of-o-requires : goal.start_of-o-requires
start_of-o-requires c = let p = well_made-count c.args.s.now (sym c.well_made.ensures ∙ c.if-not-well_made.false) in omega (arith, c.count_of.ensures)

pub slice_bounds-put_bytes-end : goal.slice_bounds-put_bytes-end
slice_bounds-put_bytes-end c =
    let w = sym c.well_made.ensures ∙ c.if-not-well_made.false in
    let n = well_made-length c.args.s.now w in
    let p = well_made-count c.args.s.now w in
    omega (arith, c.count_of.ensures, c.start_of-o.ensures)

pub returns : goal.returns
unfolding read_record record_of
returns c =
    let a = c.args in
    let e : c.start_of-o.result + 32 - c.start_of-o.result ≡ 32 = omega arith in
    rw (sym c.well_made.ensures ∙ c.if-not-well_made.false, ← c.count_of.ensures, lt-ltb _ _ c.if-count_of-k.false, le-ltb _ 32 c.if-d-lt32.false)
    (refl, rw (← c.start_of-o.ensures) (rw e at c.put_bytes.ensures))
