use Prim.Native.Nat.{ℕ, ◌/◌, ◌%◌, ◌≤◌}
use mathlib.Core.Path.{◌≡◌}
use mathlib.Core.List.{[]}
use lib.ListN.{length, get_or}
use Rattle.codec.specs.Splice.{splice}
use Rattle.codec.specs.Rows.{upto}
use Rattle.header.proofs.store_limits.Given as goal

abbrev pub invariant-loop-k : goal.invariant-loop-k
invariant-loop-k l = (l.k ≤ 64) × (length l.d ≡ length l.initial.d) × (l.d ≡ splice l.initial.d 32 (upto l.k (λ (m : ℕ). get_or (get_or l.limits (m / 8) []) (m % 8) 0)))
