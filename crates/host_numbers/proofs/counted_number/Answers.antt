use native.Mathlib.Omega.{arith}
use Rattle.host_numbers.proofs.counted_number.Goals as goal

pub overflow_add-result : goal.overflow_add-result
overflow_add-result c = omega (arith, rw c.in-Ok.is at c.requires)
