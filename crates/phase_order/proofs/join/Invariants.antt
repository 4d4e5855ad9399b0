use Prim.Native.Nat.{ℕ, ◌+◌, ◌*◌, ◌%◌, ◌≤◌, ◌<◌}
use mathlib.Core.Path.{◌≡◌}
use mathlib.Core.List.{List}
use mathlib.Core.Bool.{cond}
use lib.Dec.{eqb}
use lib.ListN.{length, get_or}
use Rattle.phase_order.proofs.join.Given as goal

-- the first k stations are as they are to be, the others as they were
pub record Joined (table : List ℕ) (q : ℕ) (before : List ℕ) (k : ℕ) (after : List ℕ) : Type 0 where
  pub long : length after ≡ 8
  pub done : (s : ℕ) → s < k → get_or after s 0 ≡ cond (eqb (get_or table (q * 8 + s) 0 % 2) 1) 1 (get_or before s 0)
  pub left : (s : ℕ) → k ≤ s → get_or after s 0 ≡ get_or before s 0

abbrev pub invariant-loop-s : goal.invariant-loop-s
invariant-loop-s l = Joined l.table l.q l.initial.joined l.s l.joined
