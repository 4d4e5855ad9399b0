use native.Mathlib.Omega.{arith}
use mathlib.Core.Path.{◌∙◌, sym}
use Rattle.codec.proofs.NumLaws.{nums_get}
use Rattle.archive.specs.Archive.{record_at}
use Rattle.archive.proofs.Tested.{record_length_lem}
use Rattle.events.specs.Events.{event_at}
use Rattle.events.proofs.count_of.Goals as goal

pub get-requires : goal.get-requires
get-requires c =
    rw c.part_of.ensures (omega (arith, record_length_lem c.args.archive.bytes.now c.args.archive.tested c.args.p.number c.requires.0))

pub returns : goal.returns
unfolding event_at
returns c =
    (rw c.part_of.ensures at c.get.ensures)
    ∙ sym (nums_get 2 8 (record_at c.args.archive.bytes.now c.args.p.number) 16 c.args.s c.requires.1)
