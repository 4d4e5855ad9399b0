-- What a refusal's number is not. Assumes nothing.
use Prim.Native.Nat.{ℕ}
use mathlib.Core.Path.{◌≡◌}
use native.Mathlib.Omega.{arith}
use Rattle.refusals.specs.declared.Refusal.{Refusal}
use Rattle.refusals.specs.declared.Refusal.TheVariants.{Malformed, IllFormedState, NetworkRule, NoSuchStation, ModeForbids, UsedUp, EmptyLink, NoMorePhases, DifferentPhases, BufferLength, NoSuchRecord, IllKept, SheetTooLong}
use Rattle.refusals.specs.Numbers.{number_of}

-- no refusal has number 0, which stands for none
pub number-some : (x : Refusal) → number_of x ≡ 0 → ⊥
number-some Malformed e = omega arith
number-some IllFormedState e = omega arith
number-some NetworkRule e = omega arith
number-some NoSuchStation e = omega arith
number-some ModeForbids e = omega arith
number-some UsedUp e = omega arith
number-some EmptyLink e = omega arith
number-some NoMorePhases e = omega arith
number-some DifferentPhases e = omega arith
number-some BufferLength e = omega arith
number-some NoSuchRecord e = omega arith
number-some IllKept e = omega arith
number-some SheetTooLong e = omega arith
