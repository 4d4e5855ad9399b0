use Prim.Native.Nat.{ℕ, ◌*◌, ◌≤◌}
use mathlib.Core.Path.{◌≡◌}
use mathlib.Core.Bool.{true}
use lib.ListN.{take, drop}
use Rattle.codec.specs.Every.{every}
use Rattle.record.specs.Record.{well_made_record}
use Rattle.entries.proofs.records_fit.Given as goal

abbrev pub invariant-loop-k : goal.invariant-loop-k
invariant-loop-k l = (l.k ≤ l.count) × (every l.k (λ (m : ℕ). well_made_record (take 32 (drop (m * 32) l.rs))) ≡ true)
