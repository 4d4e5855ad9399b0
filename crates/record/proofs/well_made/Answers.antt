use Prim.Native.Nat.{◌<◌}
use mathlib.Core.Path.{◌≡◌, ◌∙◌, sym}
use mathlib.Core.Bool.{true, ◌&&◌}
use native.Mathlib.Omega.{arith}
use lib.Dec.{eqb, ltb}
use lib.ListN.{get_or}
use borrow.Author.Tests.{ne_eqb}
use Rattle.codec.specs.Num.{num_at}
use Rattle.codec.proofs.NumLaws.{nums_get}
use Rattle.record.specs.Record.{well_made_record}
use Rattle.record.proofs.Laws.{spare_first, spare_none}
use Rattle.record.proofs.well_made.Goals as goal
use Rattle.record.proofs.well_made.Goals.{Else-spare-ne0}

-- what the spare bytes say, and that the station is below 8
known : (f : goal.Else-spare-ne0)
    → let l = f.args.s.now in
    ((eqb (get_or l 3 0) 0 && (eqb (num_at 4 l 12) 0 && ltb (get_or l 1 0) 8)) ≡ true) × (get_or l 1 0 < 8)
known c = spare_none c.args.s.now _ c.spare.ensures c.if-spare-ne0.false

pub returns-then-s-ne32 : goal.returns-then-s-ne32
unfolding well_made_record
returns-then-s-ne32 c = rw (ne_eqb _ 32 c.if-s-ne32.true)

pub returns-then-spare-ne0 : goal.returns-then-spare-ne0
returns-then-spare-ne0 c =
    rw (spare_first c.args.s.now c.if-s-ne32.false, sym c.spare.ensures ∙ ne_eqb _ 0 c.if-spare-ne0.true)

pub peer_fits-requires : goal.peer_fits-requires
peer_fits-requires c = (known (goal.at.peer_fits-requires c).Else-spare-ne0).1

pub overflow_mul-i : goal.overflow_mul-i
overflow_mul-i c = omega (arith, (known (goal.at.overflow_mul-i c).Else-spare-ne0).1)

pub overflow_add-i : goal.overflow_add-i
overflow_add-i c = omega (arith, (known (goal.at.overflow_add-i c).Else-spare-ne0).1)

pub get-requires-2 : goal.get-requires-2
get-requires-2 c = omega (arith, (known (goal.at.get-requires-2 c).Else-spare-ne0).1)

pub returns : goal.returns
returns c =
    let l = c.args.s.now in
    rw (spare_first l c.if-s-ne32.false, (known (goal.at.returns c).Else-spare-ne0).0, c.peer_fits.ensures, c.get.ensures, c.get-2.ensures, c.from-i.ensures, nums_get 2 8 l 16 (get_or l 1 0) (known (goal.at.returns c).Else-spare-ne0).1)
