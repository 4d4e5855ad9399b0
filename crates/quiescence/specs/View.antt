-- The code's answer of rest as the definition's. Assumes nothing.
use Rattle.std.specs.Prelude.{Bool, true, false, Result, Ok, Err}
use Rattle.refusals.specs.declared.Refusal.{Refusal}
use Rattle.refusals.specs.Numbers.{number_of}
use Rattle.area_calls.specs.Calls.{RestAnswer, yes, no, rest_refused}

abbrev pub rest_view : Result Bool Refusal → RestAnswer
rest_view (Ok true) = yes
rest_view (Ok false) = no
rest_view (Err r) = rest_refused (number_of r)
