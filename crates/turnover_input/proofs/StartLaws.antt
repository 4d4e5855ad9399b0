-- A word at the start of a line. Assumes nothing.
use Prim.Native.Nat.{ℕ}
use mathlib.Core.Path.{◌≡◌, refl, ap}
use mathlib.Core.Bool.{Bool, true, false, cond, ◌&&◌, false≢true}
use mathlib.Core.List.{List, [], ◌∷◌, ◌++◌}
use lib.Dec.{eqb}
use lib.ListN.{length, take, drop}
use borrow.Author.Tests.{eqb-true}
use Rattle.std.specs.Cmp.Lexicographic.{pointwise}
use Rattle.std.proofs.lemmas.Cmp.{nat_eq_equiv}
use Rattle.turnover_input.specs.Parse.{starts_with}

-- a line that starts with a word is that word and what stands behind it
pub start_split : (w l : List ℕ) → starts_with w l ≡ true → w ++ drop (length w) l ≡ l
unfolding starts_with
start_split [] l e = refl
start_split (x ∷ w) [] e = absurd (false≢true e)
start_split (x ∷ w) (y ∷ l) e = go (eqb x y) refl (start_split w l)
  where
    go : (d : Bool) → eqb x y ≡ d → (starts_with w l ≡ true → w ++ drop (length w) l ≡ l) → x ∷ (w ++ drop (length w) l) ≡ y ∷ l
    go true p f = rw (eqb-true x y p) (ap (λ (k : List ℕ). y ∷ k) (f (rw p at e)))
    go false p f = absurd (false≢true (rw p at e))

-- a line that begins as a word does, by the comparison of the bytes
alike : (x y : ℕ) (a b : Bool) → a ≡ b → (eqb y x && a) ≡ cond (eqb x y) b false
alike x y a b e = rw (eqb_flip, e) (go (eqb x y))
  where
    eqb_flip : eqb y x ≡ eqb x y
    eqb_flip = nat_eq_equiv.symm y x

    go : (c : Bool) → (c && b) ≡ cond c b false
    go true = refl
    go false = refl

pub begins : (w l : List ℕ) → pointwise eqb (take (length w) l) w ≡ starts_with w l
unfolding starts_with
begins [] l = refl
begins (x ∷ w) [] = refl
begins (x ∷ w) (y ∷ l) = alike x y (pointwise eqb (take (length w) l) w) (starts_with w l) (begins w l)
