-- The table of limits by receiver. Assumes nothing.
use Rattle.std.specs.Prelude.{ℕ, List}
use Rattle.codec.specs.Rows.{upto}
use Rattle.reset.specs.Reach.{limit}

-- the limits of the links to station j
unfoldable pub column_of : List (List ℕ) → ℕ → List ℕ
column_of m j = upto 8 (λ (i : ℕ). limit m i j)

-- a row for each receiver
unfoldable pub turned_of : List (List ℕ) → List (List ℕ)
turned_of m = upto 8 (column_of m)
