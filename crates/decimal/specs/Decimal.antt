-- Numbers in base ten, as bytes of text. Assumes nothing.
use Rattle.std.specs.Prelude.{ℕ, zero, suc, ◌+◌, ◌*◌, ◌-◌, ◌/◌, ◌%◌, Bool, true, false, not, cond, ◌&&◌, List, [], ◌∷◌, ◌++◌, eqb, leb, ltb}

-- the last k digits of n: n % 10 comes last, and before it the digits of n / 10, where there are any
unfoldable pub decimal_in : ℕ → ℕ → List ℕ
decimal_in zero n = []
decimal_in (suc k) n = cond (ltb n 10) ((48 + n) ∷ []) (decimal_in k (n / 10) ++ ((48 + n % 10) ∷ []))

-- the text of n: its digits, without leading zeros (n has no more than n + 1)
unfoldable pub decimal : ℕ → List ℕ
decimal n = decimal_in (suc n) n

-- numbers, a space before each
abbrev pub spaced : List ℕ → List ℕ
spaced [] = []
spaced (x ∷ l) = 32 ∷ (decimal x ++ spaced l)

-- numbers, parted by single spaces
abbrev pub parted : List ℕ → List ℕ
parted [] = []
parted (x ∷ l) = decimal x ++ spaced l

-- `0` to `9`
unfoldable pub digit : ℕ → Bool
digit x = leb 48 x && leb x 57

-- digits alone
unfoldable pub all_digits : List ℕ → Bool
all_digits [] = true
all_digits (x ∷ l) = digit x && all_digits l

-- digits without leading zeros: at least one, and a 0 comes first only where it stands alone
unfoldable pub numeral : List ℕ → Bool
numeral [] = false
numeral (x ∷ []) = digit x
numeral (x ∷ y ∷ l) = not (eqb x 48) && all_digits (x ∷ y ∷ l)

-- the number that digits stand for, behind those of v
unfoldable pub value_from : ℕ → List ℕ → ℕ
value_from v [] = v
value_from v (x ∷ l) = value_from (v * 10 + (x - 48)) l

-- the number that digits stand for: ten times the one before, and the digit, from 0 on
abbrev pub value_of : List ℕ → ℕ
value_of l = value_from 0 l
