use native.Mathlib.Omega.{arith}
use Rattle.turnover_output.proofs.TextAtLaws.{small-length, large_length, text_small, text_large}
use Rattle.turnover_output.proofs.text.+number.Goals as goal

pub bounds-out-at : goal.bounds-out-at
bounds-out-at t c = omega (arith, small-length c.if-x-lt10.true)

pub returns-then-x-lt10 : goal.returns-then-x-lt10
returns-then-x-lt10 t c = rw c.digit.ensures (text_small _ _ _ c.if-x-lt10.true (omega (arith, small-length c.if-x-lt10.true)))

pub number-last-requires : goal.number-last-requires
number-last-requires t c = let l = large_length c.if-x-lt10.false in (omega (arith, c.decreases), omega (arith, l))

pub bounds-out-last : goal.bounds-out-last
bounds-out-last t c = omega (arith, large_length c.if-x-lt10.false, c.number-last.ensures.next, c.number-last.auto.out)

pub returns : goal.returns
returns t c =
    rw c.digit-2.ensures (text_large _ _ _ _ _ c.if-x-lt10.false c.number-last.ensures (omega (arith, large_length c.if-x-lt10.false, c.number-last.ensures.next, c.number-last.auto.out)))
