-- The first bytes of a block as rows of 32, as the code adds them up; the check itself is in Check. Assumes nothing.
use Rattle.std.specs.Prelude.{ℕ, ◌+◌, ◌*◌, ◌≤◌, ◌<◌, ◌≡◌, List, length, get_or}
use Rattle.codec.specs.Every.{sum}

-- the bytes of column j in n rows, added up
unfoldable pub column_sum : ℕ → List ℕ → ℕ → ℕ
column_sum n l j = sum n (λ (r : ℕ). get_or l (r * 32 + j) 0)

-- the same, each byte times its row
unfoldable pub column_rows : ℕ → List ℕ → ℕ → ℕ
column_rows n l j = sum n (λ (r : ℕ). r * get_or l (r * 32 + j) 0)

-- what column j of n rows comes to, each byte times its place from 1
unfoldable pub column_share : ℕ → List ℕ → ℕ → ℕ
column_share n l j = 32 * column_rows n l j + (j + 1) * column_sum n l j

-- what the first k columns of n rows come to
unfoldable pub columns_to : ℕ → ℕ → List ℕ → ℕ
columns_to n k l = sum k (column_share n l)

-- what stands in two arrays at column k of fifteen rows: its sums, which are small
abbrev pub SumsAt : List ℕ → List ℕ → List ℕ → ℕ → Type 0
SumsAt l lows highs k =
    (get_or lows k 0 ≡ column_sum 15 l k) × (get_or highs k 0 ≡ column_rows 15 l k) × (get_or lows k 0 ≤ 3825) × (get_or highs k 0 ≤ 53550)

-- the same at the first n columns of two arrays of 32
abbrev pub Columns : List ℕ → ℕ → List ℕ → List ℕ → Type 0
Columns l n lows highs = (length lows ≡ 32) × (length highs ≡ 32) × ((k : ℕ) → k < n → SumsAt l lows highs k)
