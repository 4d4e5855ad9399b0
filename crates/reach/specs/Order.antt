-- Stations that are linked in order: what lets the code see at once that all are reached. Assumes nothing.
use Rattle.std.specs.Prelude.{ℕ, List, Bool, not, ◌||◌, eqb}
use Rattle.codec.specs.Every.{every}
use Rattle.reset.specs.Reach.{limit}

-- a station before j has a link to it
unfoldable pub has_earlier : List (List ℕ) → ℕ → Bool
has_earlier m j = not (every j (λ (i : ℕ). eqb (limit m i j) 0))

-- so has every station below n but 0
unfoldable pub in_order : ℕ → List (List ℕ) → Bool
in_order n m = every n (λ (j : ℕ). eqb j 0 || has_earlier m j)
