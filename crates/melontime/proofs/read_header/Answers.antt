use mathlib.Core.Path.{refl, sym, ◌∙◌}
use native.Mathlib.Omega.{arith}
use borrow.Author.Tests.{lt-ltb, le-ltb}
use Rattle.header.proofs.Laws.{well_made-length}
use Rattle.host_numbers.specs.Numbers.{fields_length}
use Rattle.host_numbers.specs.Headers.{header_fields}
use Rattle.melontime.proofs.read_header.Goals as goal

pub returns-then-not-well_made : goal.returns-then-not-well_made
unfolding header_fields
returns-then-not-well_made c = rw (sym c.well_made.ensures ∙ c.if-not-well_made.true) (refl, refl)

pub returns-then-fields-lt-FIELDS : goal.returns-then-fields-lt-FIELDS
unfolding header_fields
returns-then-fields-lt-FIELDS c = rw (sym c.well_made.ensures ∙ c.if-not-well_made.false, lt-ltb _ fields_length c.if-fields-lt-FIELDS.true) (refl, refl)

pub put_fields-requires : goal.put_fields-requires
unfolding header_fields
put_fields-requires c = (well_made-length _ (sym c.well_made.ensures ∙ c.if-not-well_made.false), omega arith)

pub returns : goal.returns
unfolding header_fields
returns c = rw (sym c.well_made.ensures ∙ c.if-not-well_made.false, le-ltb _ fields_length c.if-fields-lt-FIELDS.false) (refl, c.put_fields.ensures)
