use Prim.Native.Nat.{ℕ, ◌+◌, ◌-◌, ◌≤◌}
use mathlib.Core.Path.{◌≡◌}
use mathlib.Core.List.{List}
use lib.ListN.{length}
use Rattle.record.specs.declared.Record.{Record}
use Rattle.phase_order.specs.Passes.{Reaches}
use Rattle.phase_order.proofs.reaches.Given as goal

-- the stations reached before phase `from`
pub record Reached (a : List ℕ) (x : Record) (from : ℕ) (r : List ℕ) : Type 0 where
  pub rounds : ℕ
  pub phase : x.phase + 1 + rounds ≡ from
  pub are : Reaches a x rounds r

abbrev pub invariant-loop-from : goal.invariant-loop-from
invariant-loop-from l = (1 ≤ l.phases) × (l.phases ≤ 1024) × (l.from ≤ l.until) × (length l.table ≡ length l.initial.table) × ((x : Record) → Reached l.archive.bytes.now x l.initial.from l.initial.reached → Reached l.archive.bytes.now x l.from l.reached)

abbrev pub decreases-loop-from : goal.decreases-loop-from
decreases-loop-from l = l.until - l.from
