-- The code's answer of receipts to rest as the definition's. Assumes nothing.
use Rattle.std.specs.Prelude.{ℕ, Result, Ok, Err}
use Rattle.refusals.specs.declared.Refusal.{Refusal}
use Rattle.refusals.specs.Numbers.{number_of}
use Rattle.area_calls.specs.Calls.{ReceiptsAnswer, receipts_left, receipts_refused}

abbrev pub receipts_view : Result ℕ Refusal → ReceiptsAnswer
receipts_view (Ok k) = receipts_left k
receipts_view (Err r) = receipts_refused (number_of r)
