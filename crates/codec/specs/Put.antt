-- A list with one element replaced, whatever its length. Assumes nothing.
use Rattle.std.specs.Prelude.{ℕ, zero, suc, List, [], ◌∷◌}

-- l with b at place i; d fills the places that a shorter list lacks
abbrev pub put : {A : Type 0} → A → List A → ℕ → A → List A
put d [] zero b = b ∷ []
put d [] (suc n) b = d ∷ put d [] n b
put d (x ∷ l) zero b = b ∷ l
put d (x ∷ l) (suc n) b = x ∷ put d l n b
