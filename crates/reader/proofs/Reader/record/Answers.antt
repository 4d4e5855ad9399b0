use mathlib.Core.Path.{ap, sym}
use Rattle.reader.specs.Reading.{bytes_of}
use Rattle.reader.proofs.Calls.{record_nothing}
use Rattle.reader.proofs.Reader.record.Goals as goal

pub returns-in-None : goal.returns-in-None
returns-in-None c = rw (ap bytes_of c.in-None.is) (sym (record_nothing c.args.self.at))
