-- The cases of a goal by a test, and by what can be decided; a test that both holds and fails. Assumes nothing.
use mathlib.Core.Path.{◌≡◌, refl}
use mathlib.Core.Bool.{Bool, true, false, true≢false}

pub by_test : {A : Type 0} (t : Bool) → (t ≡ true → A) → (t ≡ false → A) → A
by_test true f g = f refl
by_test false f g = g refl

pub by_dec : {A P : Type 0} → Dec P → (P → A) → ((P → ⊥) → A) → A
by_dec (yes p) f g = f p
by_dec (no p) f g = g p

pub clash : {A : Type 0} → true ≡ false → A
clash e = absurd (true≢false e)
