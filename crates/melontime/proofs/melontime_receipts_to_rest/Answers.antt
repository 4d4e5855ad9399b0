use mathlib.Core.Path.{ap, ◌∙◌}
use Rattle.area_calls.specs.Calls.{ReceiptsAnswer}
use Rattle.host_numbers.specs.Numbers.{receipts_number}
use Rattle.melontime.proofs.melontime_receipts_to_rest.Goals as goal

pub returns : goal.returns
returns c = c.receipts_number.ensures ∙ ap (λ (x : ReceiptsAnswer). receipts_number x) c.to_rest.ensures
