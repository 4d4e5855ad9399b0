use mathlib.Core.Path.{◌∙◌, sym}
use Rattle.codec.proofs.NumLaws.{nums_get}
use Rattle.entries.specs.Entries.{record_of}
use Rattle.entries.proofs.Laws.{part_record}
use Rattle.events.proofs.count_in.Goals as goal

pub returns : goal.returns
returns c =
    (rw (part_record _ _ _ c.start_of-o.ensures) at c.get.ensures)
    ∙ sym (nums_get 2 8 (record_of c.args.block.now c.args.k) 16 c.args.s c.requires.2)
