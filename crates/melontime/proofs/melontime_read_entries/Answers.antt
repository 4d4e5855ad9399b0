use mathlib.Core.Path.{ap, ◌∙◌}
use Rattle.std.specs.Prelude.{Result}
use Rattle.refusals.specs.declared.Refusal.{Refusal}
use Rattle.entries.specs.declared.EntriesRead.{EntriesRead}
use Rattle.host_numbers.specs.Numbers.{block_number}
use Rattle.melontime.proofs.melontime_read_entries.Goals as goal

pub returns : goal.returns
returns c = c.block_number.ensures ∙ ap (λ (x : Result EntriesRead Refusal). block_number x) c.read.ensures
