-- The number that stands for a verdict, where one is returned or written. Assumes nothing.
use Rattle.std.specs.Prelude.{ℕ}
use Rattle.clock.specs.declared.Verdict.{Verdict}
use Rattle.clock.specs.declared.Verdict.TheVariants.{Before, After, Same, Unordered}

-- 100 before, 101 after, 102 same, 103 unordered
abbrev pub order_number : Verdict → ℕ
order_number Before = 100
order_number After = 101
order_number Same = 102
order_number Unordered = 103
