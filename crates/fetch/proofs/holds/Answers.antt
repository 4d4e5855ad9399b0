use Rattle.fetch.specs.Fetch.{holds as holds-record}
use Rattle.fetch.proofs.holds.Goals as goal

pub returns : goal.returns
unfolding holds-record
returns c = rw (c.from-number.ensures, c.get.ensures, c.count_of-count.ensures)
