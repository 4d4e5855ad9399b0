-- The lines of an input: in parts, and joined. Assumes nothing.
use Prim.Native.Nat.{ℕ, ◌+◌, ◌/◌, ◌%◌}
use native.Mathlib.Omega.{arith}
use mathlib.Core.Path.{◌≡◌, refl, ◌∙◌, sym, ap}
use mathlib.Core.Bool.{Bool, true, false, cond, true≢false}
use mathlib.Core.List.{List, [], ◌∷◌, ◌++◌, append_assoc, append-nil}
use lib.Dec.{eqb}
use borrow.Author.Tests.{eqb-true, ne_eqb}
use Rattle.decimal.specs.Decimal.{decimal}
use Rattle.decimal.proofs.DecimalLaws.{decimal-small, decimal_large, by_digits}
use Rattle.turnover_input.specs.Lines.{unended, ended, split_from, lines_of, and_then, joined, ends, Clean, before, behind}

-- a part, and what comes after it
pub split_append : (line a b : List ℕ) → split_from line (a ++ b) ≡ and_then (split_from line a) b
unfolding split_from
split_append line [] b = refl
split_append line (x ∷ a) b = go (eqb x 10) refl (split_append [] a b) (split_append (line ++ (x ∷ [])) a b)
  where
    go : (t : Bool) → eqb x 10 ≡ t → split_from [] (a ++ b) ≡ and_then (split_from [] a) b
        → split_from (line ++ (x ∷ [])) (a ++ b) ≡ and_then (split_from (line ++ (x ∷ [])) a) b → split_from line (x ∷ (a ++ b)) ≡ and_then (split_from line (x ∷ a)) b
    go true e f g = rw e (ap (ended line) f)
    go false e f g = rw e g

-- up to the first line feed
pub split_first : (line a : List ℕ) → split_from line a ≡ cond (ends a) (ended (line ++ before a) (split_from [] (behind a))) (unended (line ++ before a))
unfolding split_from ends before behind
split_first line [] = rw append-nil
split_first line (x ∷ a) = go (eqb x 10) refl (split_first (line ++ (x ∷ [])) a)
  where
    go : (t : Bool) → eqb x 10 ≡ t
        → split_from (line ++ (x ∷ [])) a ≡ cond (ends a) (ended (line ++ (x ∷ []) ++ before a) (split_from [] (behind a))) (unended (line ++ (x ∷ []) ++ before a))
        → split_from line (x ∷ a) ≡ cond (ends (x ∷ a)) (ended (line ++ before (x ∷ a)) (split_from [] (behind (x ∷ a)))) (unended (line ++ before (x ∷ a)))
    go true e f = rw (e, append-nil)
    go false e f = rw e (rw append_assoc at f)

-- nothing is lost or added: the lines with their line feeds, and the rest, are the bytes
pub split_joined : (line a : List ℕ) → joined (split_from line a).whole ++ (split_from line a).rest ≡ line ++ a
unfolding split_from
split_joined line [] = sym (append-nil line)
split_joined line (x ∷ a) = go (eqb x 10) refl (split_joined [] a) (split_joined (line ++ (x ∷ [])) a)
  where
    go : (t : Bool) → eqb x 10 ≡ t → joined (split_from [] a).whole ++ (split_from [] a).rest ≡ a
        → joined (split_from (line ++ (x ∷ [])) a).whole ++ (split_from (line ++ (x ∷ [])) a).rest ≡ line ++ (x ∷ []) ++ a
        → joined (split_from line (x ∷ a)).whole ++ (split_from line (x ∷ a)).rest ≡ line ++ (x ∷ a)
    go true e f g = rw (e, append_assoc line, f, eqb-true x 10 e)
    go false e f g = rw e (g ∙ append_assoc line (x ∷ []) a)

-- no line has a line feed in it: with the law above, there is no other split
ends_none : ends [] ≡ false
unfolding ends
ends_none = refl

ends_more : (line : List ℕ) (x : ℕ) → ends line ≡ false → eqb x 10 ≡ false → ends (line ++ (x ∷ [])) ≡ false
unfolding ends
ends_more [] x h e = rw e
ends_more (y ∷ line) x h e = go (eqb y 10) refl (ends_more line x)
  where
    go : (t : Bool) → eqb y 10 ≡ t → (ends line ≡ false → eqb x 10 ≡ false → ends (line ++ (x ∷ [])) ≡ false) → ends (y ∷ (line ++ (x ∷ []))) ≡ false
    go true q f = absurd (true≢false (rw q at h))
    go false q f = rw q (f (rw q at h) e)

pub split_clean : (line a : List ℕ) → ends line ≡ false → Clean (split_from line a).whole × (ends (split_from line a).rest ≡ false)
unfolding split_from
split_clean line [] h = (tt, h)
split_clean line (x ∷ a) h = go (eqb x 10) refl (split_clean [] a ends_none) (split_clean (line ++ (x ∷ [])) a)
  where
    go : (t : Bool) → eqb x 10 ≡ t → Clean (split_from [] a).whole × (ends (split_from [] a).rest ≡ false)
        → (ends (line ++ (x ∷ [])) ≡ false → Clean (split_from (line ++ (x ∷ [])) a).whole × (ends (split_from (line ++ (x ∷ [])) a).rest ≡ false))
        → Clean (split_from line (x ∷ a)).whole × (ends (split_from line (x ∷ a)).rest ≡ false)
    go true e f g = rw e ((h, f.0), f.1)
    go false e f g = rw e (g (ends_more line x h e))

-- ---- lines joined to an input are its lines
split_line : (line l more : List ℕ) → ends l ≡ false → split_from line (l ++ (10 ∷ more)) ≡ ended (line ++ l) (split_from [] more)
unfolding split_from ends
split_line line [] more h = rw append-nil
split_line line (x ∷ l) more h = go (eqb x 10) refl (split_line (line ++ (x ∷ [])) l more)
  where
    go : (t : Bool) → eqb x 10 ≡ t → (ends l ≡ false → split_from (line ++ (x ∷ [])) (l ++ (10 ∷ more)) ≡ ended (line ++ (x ∷ []) ++ l) (split_from [] more))
        → split_from line (x ∷ (l ++ (10 ∷ more))) ≡ ended (line ++ (x ∷ l)) (split_from [] more)
    go true e f = absurd (true≢false (rw e at h))
    go false e f = rw e (rw append_assoc at (f (rw e at h)))

pub lines_joined : (ls : List (List ℕ)) → Clean ls → lines_of (joined ls) ≡ ls
unfolding split_from
lines_joined [] c = refl
lines_joined (l ∷ ls) c = rw (split_line [] l (joined ls) c.0) (ap (λ (x : List (List ℕ)). l ∷ x) (lines_joined ls c.1))

-- a number's text has no line feed
pub decimal-clean : (n : ℕ) → ends (decimal n) ≡ false
unfolding ends
decimal-clean =
    by_digits (λ (n : ℕ). ends (decimal n) ≡ false)
    (λ n h. rw (decimal-small n h, ne_eqb (48 + n) 10 (omega arith)))
    (λ n h e. rw (decimal_large n h) (ends_more (decimal (n / 10)) (48 + n % 10) e (ne_eqb (48 + n % 10) 10 (omega arith))))
