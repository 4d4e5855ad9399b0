use mathlib.Core.Path.{◌∙◌, sym}
use native.Mathlib.Omega.{arith}
use Rattle.turnover_input.proofs.FieldLaws.{tail, is_digit, ends, stops, sticks, goes, under}
use Rattle.turnover_input.proofs.fields.digits.Goals as goal

pub returns-then-not-is_ascii_digit : goal.returns-then-not-is_ascii_digit
returns-then-not-is_ascii_digit c =
    rw tail (stops _ c.loop-i.v c.loop-i.i (omega arith) (sym (is_digit _) ∙ sym c.is_ascii_digit.ensures.value ∙ c.if-not-is_ascii_digit.true) ∙ c.loop-i.invariant.1)

pub returns-then-v-w : goal.returns-then-v-w
returns-then-v-w c =
    let d = sym (is_digit _) ∙ sym c.is_ascii_digit.ensures.value ∙ c.if-not-is_ascii_digit.false in
    sticks _ c.loop-i.v c.loop-i.i _ c.from.ensures (omega arith) d c.if-v-w.true ∙ c.loop-i.invariant.1

pub loop-i-preserved : goal.loop-i-preserved
loop-i-preserved c =
    let d = sym (is_digit _) ∙ sym c.is_ascii_digit.ensures.value ∙ c.if-not-is_ascii_digit.false in
    (under c.loop-i.v _ c.if-v-w.false, goes _ c.loop-i.v c.loop-i.i _ c.from.ensures (omega arith) d c.if-v-w.false ∙ c.loop-i.invariant.1)

pub returns : goal.returns
returns c = rw tail (ends _ _ c.loop-i.i (omega arith) ∙ c.loop-i.invariant.1)
