use mathlib.Core.Path.{ap}
use native.Mathlib.Omega.{arith}
use Rattle.archive.proofs.Laws.{test-long}
use Rattle.reader.specs.Reading.{bytes_of}
use Rattle.reader.proofs.Reader.count.Goals as goal

pub returns-in-Some-clause-ok : goal.returns-in-Some-clause-ok
returns-in-Some-clause-ok c =
    let a = c.in-Some.archive in
    rw (ap bytes_of c.in-Some.is) (c.records.ensures, λ z. omega (arith, test-long a.bytes.now a.tested))
