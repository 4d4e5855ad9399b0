use mathlib.Core.Path.{refl, ◌∙◌, ap}
use Rattle.reader.specs.Reading.{bytes_of}
use Rattle.reader.proofs.Calls.{held_first}
use Rattle.reader.proofs.Reader.new.Goals as goal

pub returns : goal.returns
returns c = record { holds = ap bytes_of c.ok.ensures.value ∙ held_first c.args.bytes.now c.open.result c.open.ensures.ok c.open.ensures.err; first = refl }
