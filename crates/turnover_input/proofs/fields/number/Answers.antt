use mathlib.Core.Path.{◌∙◌, sym}
use Rattle.turnover_input.proofs.FieldLaws.{is_digit, first_none, first_bare, first_on}
use Rattle.turnover_input.proofs.fields.number.Goals as goal

pub returns-in_err-x : goal.returns-in_err-x
returns-in_err-x c = rw c.from_residual.ensures (first_none _ c.in_err-x.ensures.cases)

pub returns-then-not-is_ascii_digit : goal.returns-then-not-is_ascii_digit
returns-then-not-is_ascii_digit c =
    let e = c.in_ok-x.ensures.cases.0 in
    rw e (first_bare _ _ (sym (is_digit _) ∙ sym c.is_ascii_digit.ensures.value ∙ c.if-not-is_ascii_digit.true))

pub returns : goal.returns
returns c =
    let e = c.in_ok-x.ensures.cases.0 in
    c.digits.ensures ∙ rw e (first_on _ _ (sym (is_digit _) ∙ sym c.is_ascii_digit.ensures.value ∙ c.if-not-is_ascii_digit.false) _ c.from.ensures)
