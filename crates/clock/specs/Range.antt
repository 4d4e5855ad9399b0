-- Phases and counts in range. Assumes nothing.
use Rattle.std.specs.Prelude.{ℕ, Bool, cond, List, leb, ltb, get_or}
use Rattle.codec.specs.Every.{every}

-- phases go from 0 to this one
abbrev pub last_phase : ℕ
last_phase = 999999

-- t for a station below n, else 0
abbrev pub ceiling_of : ℕ → ℕ → ℕ → ℕ
ceiling_of n t k = cond (ltb k n) t 0

-- each of eight counts at most t, and 0 for stations n and above
unfoldable pub counts_fit : ℕ → ℕ → List ℕ → Bool
counts_fit n t v = every 8 (λ (k : ℕ). leb (get_or v k 0) (ceiling_of n t k))
