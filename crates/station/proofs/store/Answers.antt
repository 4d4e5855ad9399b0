use mathlib.Core.Path.{◌≡◌, refl, ◌∙◌, sym, ap}
use native.Mathlib.Omega.{arith}
use lib.ListN.{length}
use Rattle.codec.specs.Num.{bytes_of, nums_of}
use Rattle.codec.proofs.NumLaws.{nums_length}
use Rattle.codec.proofs.SpliceLaws.{first, next, next_byte, written}
use Rattle.station.specs.Image.{sent_of, marks_of, image_station}
use Rattle.station.specs.View.{station_view}
use Rattle.station.proofs.Laws.{sent_is, sent-length, marks-length, image-length}
use Rattle.station.proofs.store.Goals as goal

pub returns : goal.returns
unfolding image_station
returns c =
    let n : length c.args.part.now ≡ 47 = c.requires in
    let x = c.args.s in
    let w1 = first c.args.part.now (nums_of 2 8 x.counts) c.put_row.new.d 16 (nums_length 2 8 x.counts) c.put_row.ensures in
    let e : sent_of x.sent ≡ x.sent = sent_is x.sent (omega arith) in
    let w2 = next (sent_of x.sent) c.put_bytes.new.d 8 w1 (omega arith) (sent-length x.sent) (rw e c.put_bytes.ensures) in
    let w3 = next (marks_of x.reqs) c.put_marks.new.part 8 w2 (omega arith) (marks-length x.reqs) c.put_marks.ensures in
    let w4 = next (marks_of x.dones) c.put_marks-2.new.part 8 w3 (omega arith) (marks-length x.dones) c.put_marks-2.ensures in
    let w5 = next (bytes_of 4 x.phase) c.put.new.d 4 w4 (omega arith) refl c.put.ensures in
    let w6 = next (bytes_of 2 x.own) c.put-2.new.d 2 w5 (omega arith) refl c.put-2.ensures in
    let w7 = next_byte c.from.result w6 (omega arith) in
    rw c.from.ensures (rw c.from.ensures at (written w7 n))

pub shape_of-part : goal.shape_of-part
shape_of-part c =
    let n : length c.args.part.now ≡ 47 = c.requires in
    ap length (returns c) ∙ image-length (station_view c.args.s) ∙ sym n
