use native.Mathlib.Omega.{arith}
use Rattle.turnover_output.proofs.TextAtLaws.{text_more}
use Rattle.turnover_output.proofs.AnswerLaws.{length64, length32, length8, opening-pieces}
use Rattle.turnover_output.proofs.answer.opening.Goals as goal

pub number-a-requires : goal.number-a-requires
number-a-requires c = omega (arith, length64 _ c.ranges.number)

pub word-b-requires : goal.word-b-requires
word-b-requires c = omega (arith, length64 _ c.ranges.number)

pub number-c-requires : goal.number-c-requires
number-c-requires c = omega (arith, length64 _ c.ranges.number, length32 _ _ c.from.ensures c.ranges.phase)

pub word-d-requires : goal.word-d-requires
word-d-requires c = omega (arith, length64 _ c.ranges.number, length32 _ _ c.from.ensures c.ranges.phase)

pub number-requires : goal.number-requires
number-requires c = omega (arith, length64 _ c.ranges.number, length32 _ _ c.from.ensures c.ranges.phase, length8 _ _ c.from-2.ensures c.ranges.station)

pub returns : goal.returns
returns c =
    let w = c.number-a.ensures in
    let x = c.word-b.ensures in
    let y = c.number-c.ensures in
    let z = c.word-d.ensures in
    let l = c.number.ensures in
    let t = text_more (text_more (text_more (text_more w x) y) z) l in
    record {
      text_at = rw (opening-pieces, c.from.ensures, c.from-2.ensures) at t;
      upper_bound = omega (arith, length64 _ c.ranges.number, length32 _ _ c.from.ensures c.ranges.phase, length8 _ _ c.from-2.ensures c.ranges.station, w.next, x.next, y.next, z.next, l.next);
    }
