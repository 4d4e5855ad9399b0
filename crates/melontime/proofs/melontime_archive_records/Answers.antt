use mathlib.Core.Path.{ap, ◌∙◌}
use native.Mathlib.Omega.{arith}
use Rattle.std.specs.Prelude.{ℕ, Result}
use Rattle.refusals.specs.declared.Refusal.{Refusal}
use Rattle.host_numbers.specs.Numbers.{counted_number}
use Rattle.melontime.proofs.Archives.{counted-small}
use Rattle.melontime.proofs.melontime_archive_records.Goals as goal

pub counted_number-requires : goal.counted_number-requires
counted_number-requires c = rw c.count.ensures (counted-small c.args.archive.now (omega arith))

pub returns : goal.returns
returns c = c.counted_number.ensures ∙ ap (λ (x : Result ℕ Refusal). counted_number x) c.count.ensures
