-- The check of a block. Assumes nothing.
use Rattle.std.specs.Prelude.{ℕ, ◌+◌, ◌*◌, ◌%◌, List, [], ◌∷◌, ◌++◌, Bool, eqb, take}
use Rattle.codec.specs.Num.{bytes_of, num_at}

-- the length of a block in bytes
abbrev pub block_size : ℕ
block_size = 512

-- each byte times its place, added up; the places start at k
unfoldable pub weighted : ℕ → List ℕ → ℕ
weighted k [] = 0
weighted k (b ∷ l) = k * b + weighted (k + 1) l

-- the check: byte p of 0 to 509 counts p + 1 times, and 1 is added
unfoldable pub check_of : List ℕ → ℕ
check_of l = (1 + weighted 1 (take 510 l)) % 65521

-- bytes 510 and 511 hold the check
unfoldable pub sealed : List ℕ → Bool
sealed l = eqb (num_at 2 l 510) (check_of l)

-- the first 510 bytes of a block with their check behind them
unfoldable pub seal_of : List ℕ → List ℕ
seal_of b = b ++ bytes_of 2 (check_of b)
