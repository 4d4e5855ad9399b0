-- The lines of an input. Assumes nothing.
use Rattle.std.specs.Prelude.{ℕ, ◌≡◌, Bool, true, false, cond, List, [], ◌∷◌, ◌++◌, eqb}

-- bytes at their line feeds: the lines that end there, and what follows the last of them
pub record Split : Type 0 where
  pub whole : List (List ℕ)
  pub rest : List ℕ

-- no line ends
abbrev pub unended : List ℕ → Split
unended line = record { whole = []; rest = line }

-- one line more ends, before the others
abbrev pub ended : List ℕ → Split → Split
ended line s = record { whole = line ∷ s.whole; rest = s.rest }

-- the split of bytes behind `line`, which came before them
unfoldable pub split_from : List ℕ → List ℕ → Split
split_from line [] = unended line
split_from line (b ∷ l) = cond (eqb b 10) (ended line (split_from [] l)) (split_from (line ++ (b ∷ [])) l)

-- what follows the last line feed is a line if there is anything
abbrev pub last_of : List ℕ → List (List ℕ)
last_of [] = []
last_of (b ∷ l) = (b ∷ l) ∷ []

-- the lines of a split, where no more bytes come
abbrev pub all_of : Split → List (List ℕ)
all_of s = s.whole ++ last_of s.rest

-- the lines of an input: each ends in a line feed, the last perhaps not
abbrev pub lines_of : List ℕ → List (List ℕ)
lines_of input = all_of (split_from [] input)

-- ---- an input that comes in parts
-- a split, and more bytes after it
abbrev pub and_then : Split → List ℕ → Split
and_then s b = record { whole = s.whole ++ (split_from s.rest b).whole; rest = (split_from s.rest b).rest }

-- lines, each with its line feed
abbrev pub joined : List (List ℕ) → List ℕ
joined [] = []
joined (l ∷ ls) = l ++ (10 ∷ joined ls)

-- there is a line feed
unfoldable pub ends : List ℕ → Bool
ends [] = false
ends (b ∷ l) = cond (eqb b 10) true (ends l)

-- no line has a line feed in it
abbrev pub Clean : List (List ℕ) → Type 0
Clean [] = Unit
Clean (l ∷ ls) = (ends l ≡ false) × Clean ls

-- what stands before the first line feed, and behind it
unfoldable pub before : List ℕ → List ℕ
before [] = []
before (b ∷ l) = cond (eqb b 10) [] (b ∷ before l)

unfoldable pub behind : List ℕ → List ℕ
behind [] = []
behind (b ∷ l) = cond (eqb b 10) l (behind l)
