use borrow.Author.Rules.{rules}
use Rattle.host_numbers.specs.Headers.{fields_fit}
use Rattle.host_numbers.proofs.fields_fit.Goals as goal

pub returns : goal.returns
unfolding fields_fit
returns c = search rules
