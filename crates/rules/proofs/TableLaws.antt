-- The table of limits turned. Assumes nothing.
use Prim.Native.Nat.{ℕ, ◌<◌}
use mathlib.Core.Path.{◌≡◌}
use mathlib.Core.List.{List, []}
use lib.ListN.{get_or}
use Rattle.codec.proofs.Stride.{upto_at}
use Rattle.reset.specs.Reach.{limit}
use Rattle.rules.specs.Table.{column_of, turned_of}

pub turned_at : (m : List (List ℕ)) (i j : ℕ) → i < 8 → j < 8 → get_or (get_or (turned_of m) i []) j 0 ≡ limit m j i
unfolding turned_of column_of
turned_at m i j h g = rw (upto_at 8 (column_of m) i [] h) (upto_at 8 (λ (k : ℕ). limit m k i) j 0 g)
