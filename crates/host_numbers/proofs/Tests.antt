-- What holds of both answers of a test holds of the test's. Assumes nothing.
use mathlib.Core.Bool.{Bool, true, false, cond}

pub by_test : {A : Type 0} (P : A → Type 0) (t : Bool) {x y : A} → P x → P y → P (cond t x y)
by_test P true p q = p
by_test P false p q = q
