-- Timestamps (document 01: stamps): eight counts, one for each station. Assumes nothing.
use Rattle.std.specs.Prelude.{ℕ, suc, max, ◌≤◌, ◌≡◌, List, [], ◌∷◌, Bool, not, ◌&&◌, eqb, ltb, get_or, replicate}
use Rattle.codec.specs.Every.{count_below}
use Rattle.codec.specs.Put.{put}

-- the counts at the start of a phase
unfoldable pub zeros : List ℕ
zeros = replicate 8 0

-- station i's own count +1
abbrev pub tick : ℕ → List ℕ → List ℕ
tick i v = put 0 v i (suc (get_or v i 0))

-- each count the greater of the two; as many as the first has
abbrev pub merged : List ℕ → List ℕ → List ℕ
merged [] w = []
merged (a ∷ v) [] = a ∷ v
merged (a ∷ v) (b ∷ w) = max a b ∷ merged v w

-- station i receives w: each other count the greater of the two, the own count +1
abbrev pub raised : ℕ → List ℕ → List ℕ → List ℕ
raised i v w = put 0 (merged v w) i (suc (get_or v i 0))

-- count k is not station i's own, and grew from v to w
abbrev pub grew_at : ℕ → List ℕ → List ℕ → ℕ → Bool
grew_at i v w k = not (eqb k i) && ltb (get_or v k 0) (get_or w k 0)

-- news: how many of the other stations' counts grew at station i, whose timestamp was v and is w (document 02: how much news a note brought)
unfoldable pub news : ℕ → List ℕ → List ℕ → ℕ
news i v w = count_below 8 (grew_at i v w)

-- timestamp order (document 01: stamp order): less when different and no count greater
abbrev pub Less : List ℕ → List ℕ → Type 0
Less v w = (v ≡ w → ⊥) × ((k : ℕ) → get_or v k 0 ≤ get_or w k 0)
