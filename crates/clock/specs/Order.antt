-- The verdict on two timestamps (document 01: before, after, same, unordered), by computed tests. Assumes nothing.
use Rattle.std.specs.Prelude.{ℕ, ◌≡◌, Bool, true, false, cond, List, eqb, leb, get_or}
use Rattle.codec.specs.Every.{every}
use Rattle.clock.specs.Timestamp.{Less}
use Rattle.clock.specs.declared.Verdict.{Verdict}
use Rattle.clock.specs.declared.Verdict.TheVariants.{Before, After, Same, Unordered}

-- count k of v is that of w
abbrev pub same_at : List ℕ → List ℕ → ℕ → Bool
same_at v w k = eqb (get_or v k 0) (get_or w k 0)

-- count k of v is at most that of w
abbrev pub no_greater_at : List ℕ → List ℕ → ℕ → Bool
no_greater_at v w k = leb (get_or v k 0) (get_or w k 0)

-- all eight counts are the same
unfoldable pub same_counts : List ℕ → List ℕ → Bool
same_counts v w = every 8 (same_at v w)

-- none of v's eight counts is greater than w's
unfoldable pub no_greater : List ℕ → List ℕ → Bool
no_greater v w = every 8 (no_greater_at v w)

-- the verdict on v and w
unfoldable pub verdict_of : List ℕ → List ℕ → Verdict
verdict_of v w = cond (same_counts v w) Same (cond (no_greater v w) Before (cond (no_greater w v) After Unordered))

-- what a verdict on v and w says
abbrev pub Related : Verdict → List ℕ → List ℕ → Type 0
Related Before v w = Less v w
Related After v w = Less w v
Related Same v w = v ≡ w
Related Unordered v w = (Less v w → ⊥) × (Less w v → ⊥) × (v ≡ w → ⊥)

-- the verdict by two flags: some count of the first is less; some is greater
abbrev pub by_flags : Bool → Bool → Verdict
by_flags true true = Unordered
by_flags true false = Before
by_flags false true = After
by_flags false false = Same

-- the verdict on the same two, the other way round
abbrev pub mirror : Verdict → Verdict
mirror Before = After
mirror After = Before
mirror Same = Same
mirror Unordered = Unordered
