use mathlib.Core.Path.{ap, ◌∙◌}
use Rattle.area_calls.specs.Calls.{RestAnswer}
use Rattle.host_numbers.specs.Numbers.{rest_number}
use Rattle.melontime.proofs.melontime_rest.Goals as goal

pub returns : goal.returns
returns c = c.rest_number.ensures ∙ ap (λ (x : RestAnswer). rest_number x) c.rest.ensures
