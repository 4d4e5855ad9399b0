-- The test that sends and receipts begin with. Assumes nothing.
use Rattle.std.specs.Prelude.{ℕ, List, Bool, ◌&&◌, ltb}
use Rattle.reset.specs.Reach.{linked}

-- i is a station below n, and the table has a link from i to j
unfoldable pub is_linked : ℕ → List (List ℕ) → ℕ → ℕ → Bool
is_linked n m i j = ltb i n && (ltb j 8 && linked m i j)
