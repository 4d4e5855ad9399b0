use Prim.Native.Nat.{ℕ, ◌/◌, ◌≤◌, ◌<◌}
use mathlib.Core.Path.{◌≡◌}
use mathlib.Core.List.{List}
use lib.ListN.{get_or}
use Rattle.fetch.proofs.next_block.Given as goal

-- of the first n numbers none is of a block from `from` on before `best`, and one is of `best` where that is not `until`
pub record Nearest (l : List ℕ) (from until n best : ℕ) : Type 0 where
  pub low : from ≤ best
  pub high : best ≤ until
  pub none : (i : ℕ) → i < n → from ≤ get_or l i 0 / 15 → best ≤ get_or l i 0 / 15
  pub some : best < until → (i : ℕ) × (i < n) × (get_or l i 0 / 15 ≡ best)

abbrev pub invariant-loop-k : goal.invariant-loop-k
invariant-loop-k l = Nearest l.numbers l.from l.until l.k-index l.best
