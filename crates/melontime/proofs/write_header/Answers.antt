use mathlib.Core.Path.{refl, sym, ◌∙◌}
use native.Mathlib.Omega.{arith}
use Rattle.host_numbers.specs.Headers.{header_written}
use Rattle.host_numbers.proofs.Headers.{fit_parts}
use Rattle.melontime.proofs.write_header.Goals as goal

pub returns : goal.returns
unfolding header_written
returns c =
    rw (sym c.fields_fit.ensures ∙ c.if-not-fields_fit.false, ← c.header_of-h.ensures, ← c.table_at.ensures) c.write.ensures

pub returns-then-not-fields_fit : goal.returns-then-not-fields_fit
unfolding header_written
returns-then-not-fields_fit c = rw (sym c.fields_fit.ensures ∙ c.if-not-fields_fit.true) (refl, refl)

pub overflow_cast-n : goal.overflow_cast-n
unfolding header_written
overflow_cast-n c = omega (arith, (fit_parts _ _ _ _ (sym c.fields_fit.ensures ∙ c.if-not-fields_fit.false)).2)

pub overflow_cast-t : goal.overflow_cast-t
unfolding header_written
overflow_cast-t c = omega (arith, (fit_parts _ _ _ _ (sym c.fields_fit.ensures ∙ c.if-not-fields_fit.false)).3)

pub header_of-h-requires : goal.header_of-h-requires
unfolding header_written
header_of-h-requires c = (fit_parts _ _ _ _ (sym c.fields_fit.ensures ∙ c.if-not-fields_fit.false)).0

pub table_at-requires : goal.table_at-requires
unfolding header_written
table_at-requires c = omega (arith, (fit_parts _ _ _ _ (sym c.fields_fit.ensures ∙ c.if-not-fields_fit.false)).1)
