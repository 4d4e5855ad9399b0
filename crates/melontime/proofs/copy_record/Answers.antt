use mathlib.Core.Path.{refl, sym, ◌∙◌}
use Rattle.std.proofs.lemmas.Result.{err_from_is_err_and}
use native.Mathlib.Omega.{arith}
use Rattle.step_parts.proofs.Refusals.{number-some}
use borrow.Author.Tests.{ne_eqb, lt-ltb, le-ltb}
use Rattle.host_numbers.specs.Numbers.{record_length}
use Rattle.melontime.specs.Archives.{record_found}
use Rattle.melontime.proofs.Archives.{found-length, found_is}
use Rattle.melontime.proofs.copy_record.Goals as goal

pub returns-in_err-find : goal.returns-in_err-find
unfolding record_found
returns-in_err-find c =
    let p = err_from_is_err_and c.from_residual.result c.from_residual.ensures.1 in
    let e = rw c.in_err-find.was at c.find.ensures in
    rw (p.1, p.2, ← e, ne_eqb _ 0 (number-some c.in_err-find.field-0.0)) (refl, refl)

pub put_bytes-requires : goal.put_bytes-requires
put_bytes-requires c =
    let e = rw c.in_ok-find.was at c.find.ensures in
    rw (c.record_at.ensures, found-length _ _ (sym e)) (omega arith)

pub returns : goal.returns
unfolding record_found
returns c =
    let e = rw c.in_ok-find.was at c.find.ensures in
    rw (← e, le-ltb _ record_length c.if-area-lt-RECORD.false) (refl, c.put_bytes.ensures ∙ rw (c.record_at.ensures, found_is _ _ (sym e)))

pub returns-then-area-lt-RECORD : goal.returns-then-area-lt-RECORD
unfolding record_found
returns-then-area-lt-RECORD c =
    let e = rw c.in_ok-find.was at c.find.ensures in
    rw (← e, lt-ltb _ record_length c.if-area-lt-RECORD.true) (refl, refl)
