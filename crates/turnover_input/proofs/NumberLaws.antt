-- The numbers that are read are those whose text stands there. Assumes nothing.
use Prim.Native.Nat.{ℕ, zero, suc, ◌+◌, ◌*◌, ◌-◌, ◌/◌, ◌%◌, ◌<◌, ◌≤◌}
use mathlib.Core.Path.{◌≡◌, refl, ◌∙◌, sym, ap}
use mathlib.Core.Bool.{Bool, true, false, ◌||◌, true≢false}
use mathlib.Core.List.{List, [], ◌∷◌, ◌++◌, append_assoc}
use native.Mathlib.Omega.{arith}
use lib.Dec.{eqb, ltb}
use borrow.Author.Tests.{eqb-true, le-ltb, ne_eqb}
use Rattle.std.proofs.Common.{Option, None, Some}
use Rattle.decimal.specs.Decimal.{decimal, spaced, parted, digit}
use Rattle.decimal.proofs.DecimalLaws.{by_digits, decimal-small, decimal_large, digit_of, digit_text, digit-behind}
use Rattle.turnover_input.specs.Fields.{Item, number, other, end, stuck, more, first, item, first_of, second_of, third_of, numbers_of}
use Rattle.turnover_input.specs.declared.fields.Numbers.{Numbers}
use Rattle.turnover_input.specs.declared.fields.Numbers.TheVariants.{One, Two, Three}

-- ---- a text read back
free : (v d : ℕ) → 0 < v → v * 10 + d < 4294967296 → stuck v (48 + d) ≡ false
unfolding stuck
free v d h l =
    let e : v * 10 + (48 + d - 48) ≡ v * 10 + d = omega arith in
    rw (ne_eqb v 0 (λ z. absurd (omega arith)), e) (le-ltb 4294967295 (v * 10 + d) (omega arith))

-- one digit more
more_one : (v d : ℕ) (m : List ℕ) → 0 < v → d < 10 → v * 10 + d < 4294967296 → more v ((48 + d) ∷ m) ≡ more (v * 10 + d) m
unfolding more
more_one v d m h l b =
    let e : v * 10 + (48 + d - 48) ≡ v * 10 + d = omega arith in
    rw (digit_of d l, free v d h b, e)

abbrev Back : ℕ → Type 0
Back x = (m : List ℕ) → x < 4294967296 → first (decimal x ++ m) ≡ more x m

back_small : (x : ℕ) → x < 10 → Back x
unfolding first
back_small x h m b =
    let e : 48 + x - 48 ≡ x = omega arith in
    rw (decimal-small x h, digit_of x h, e)

back_large : (x : ℕ) → 10 ≤ x → Back (x / 10) → Back x
back_large x h f m b =
    let e : x / 10 * 10 + x % 10 ≡ x = omega arith in
    rw (decimal_large x h, append_assoc) (f ((48 + x % 10) ∷ m) (omega arith)
    ∙ more_one (x / 10) (x % 10) m (omega arith) (omega arith) (omega arith) ∙ rw e)

-- no digit follows
abbrev Apart : List ℕ → Type 0
Apart [] = Unit
Apart (x ∷ l) = digit x ≡ false

more_apart : (v : ℕ) (m : List ℕ) → Apart m → more v m ≡ number v m
unfolding more
more_apart v [] h = refl
more_apart v (x ∷ l) h = rw h

first_text : (x : ℕ) (m : List ℕ) → x < 4294967296 → Apart m → first (decimal x ++ m) ≡ number x m
first_text x m b h = by_digits Back back_small back_large x m b ∙ more_apart x m h

item_text : (x : ℕ) (m : List ℕ) → x < 4294967296 → Apart m → item (32 ∷ (decimal x ++ m)) ≡ number x m
unfolding item
item_text x m b h = first_text x m b h

item_nil : item [] ≡ end
unfolding item
item_nil = refl

apart : (l : List ℕ) → Apart (spaced l)
unfolding digit
apart [] = tt
apart (x ∷ l) = refl

last_text : (x : ℕ) → x < 4294967296 → item (spaced (x ∷ [])) ≡ number x []
last_text x h = item_text x [] h tt

pub numbers_one : (a : ℕ) → a < 4294967296 → numbers_of (parted (a ∷ [])) ≡ Some (One a)
unfolding numbers_of
numbers_one a h = rw (first_text a [] h tt, item_nil)

pub numbers_two : (a b : ℕ) → a < 4294967296 → b < 4294967296 → numbers_of (parted (a ∷ b ∷ [])) ≡ Some (Two a b)
unfolding numbers_of
numbers_two a b h g = rw (first_text a (spaced (b ∷ [])) h (apart (b ∷ [])), last_text b g, item_nil)

pub numbers-three : (a b c : ℕ) → a < 4294967296 → b < 4294967296 → c < 4294967296 → numbers_of (parted (a ∷ b ∷ c ∷ [])) ≡ Some (Three a b c)
unfolding numbers_of
numbers-three a b c h g k =
    rw (first_text a (spaced (b ∷ c ∷ [])) h (apart (b ∷ c ∷ [])), item_text b (spaced (c ∷ [])) g (apart (c ∷ [])), last_text c k)

-- ---- what was read is text of it
other-number : (v : ℕ) (m : List ℕ) → other ≡ number v m → ⊥
other-number v m e = let z : ◌≡◌ {A = ℕ} 0 1 = cc in omega arith

other_end : other ≡ end → ⊥
other_end e = let z : ◌≡◌ {A = ℕ} 0 1 = cc in omega arith

number_end : (v : ℕ) (m : List ℕ) → number v m ≡ end → ⊥
number_end v m e = let z : ◌≡◌ {A = ℕ} 0 1 = cc in omega arith

digit_more : (v x : ℕ) (l : List ℕ) → digit x ≡ true → stuck v x ≡ false → decimal v ++ x ∷ l ≡ decimal (v * 10 + (x - 48)) ++ l
unfolding stuck
digit_more v x l d s = rw (digit-behind v x (pos v s) d, append_assoc)
  where
    pos : (v : ℕ) → (eqb v 0 || ltb 4294967295 (v * 10 + (x - 48))) ≡ false → 0 < v
    pos zero e = absurd (true≢false e)
    pos (suc v) e = omega arith

more_step : (v x : ℕ) (l : List ℕ) (w : ℕ) (m : List ℕ) (d s : Bool) → digit x ≡ d → stuck v x ≡ s
    → (more (v * 10 + (x - 48)) l ≡ number w m → decimal (v * 10 + (x - 48)) ++ l ≡ decimal w ++ m)
    → more v (x ∷ l) ≡ number w m → decimal v ++ x ∷ l ≡ decimal w ++ m
unfolding more
more_step v x l w m false s p q f e = let h = rw p at e in cc
more_step v x l w m true true p q f e = absurd (other-number w m (rw (p, q) at e))
more_step v x l w m true false p q f e = digit_more v x l p q ∙ f (rw (p, q) at e)

more_sound : (v : ℕ) (l : List ℕ) (w : ℕ) (m : List ℕ) → more v l ≡ number w m → decimal v ++ l ≡ decimal w ++ m
unfolding more
more_sound v [] w m e = cc
more_sound v (x ∷ l) w m e = more_step v x l w m (digit x) (stuck v x) refl refl (more_sound (v * 10 + (x - 48)) l w m) e

first_sound : (l : List ℕ) (w : ℕ) (m : List ℕ) → first l ≡ number w m → l ≡ decimal w ++ m
unfolding first
first_sound [] w m e = absurd (other-number w m e)
first_sound (x ∷ l) w m e = go (digit x) refl
  where
    go : (d : Bool) → digit x ≡ d → x ∷ l ≡ decimal w ++ m
    go false p = absurd (other-number w m (rw p at e))
    go true p = rw (digit_text x p) at (more_sound (x - 48) l w m (rw p at e))

item-sound : (l : List ℕ) (w : ℕ) (m : List ℕ) → item l ≡ number w m → l ≡ 32 ∷ (decimal w ++ m)
unfolding item
item-sound [] w m e = absurd (number_end w m (sym e))
item-sound (x ∷ l) w m e = go (eqb x 32) refl
  where
    go : (d : Bool) → eqb x 32 ≡ d → x ∷ l ≡ 32 ∷ (decimal w ++ m)
    go false p = absurd (other-number w m (rw p at e))
    go true p = rw (eqb-true x 32 p) (ap (λ (k : List ℕ). 32 ∷ k) (first_sound l w m (rw p at e)))

-- ---- only the end is read as the end
more_end : (v : ℕ) (l : List ℕ) → more v l ≡ end → ⊥
unfolding more
more_end v [] e = number_end v [] e
more_end v (x ∷ l) e = go (digit x) (stuck v x) refl refl (more_end (v * 10 + (x - 48)) l)
  where
    go : (d s : Bool) → digit x ≡ d → stuck v x ≡ s → (more (v * 10 + (x - 48)) l ≡ end → ⊥) → ⊥
    go false s p q f = number_end v (x ∷ l) (rw p at e)
    go true true p q f = other_end (rw (p, q) at e)
    go true false p q f = f (rw (p, q) at e)

first_end : (l : List ℕ) → first l ≡ end → ⊥
unfolding first
first_end [] e = other_end e
first_end (x ∷ l) e = go (digit x) refl
  where
    go : (d : Bool) → digit x ≡ d → ⊥
    go false p = other_end (rw p at e)
    go true p = more_end (x - 48) l (rw p at e)

item_none : (l : List ℕ) → item l ≡ end → l ≡ []
unfolding item
item_none [] e = refl
item_none (x ∷ l) e = go (eqb x 32) refl
  where
    go : (d : Bool) → eqb x 32 ≡ d → x ∷ l ≡ []
    go false p = absurd (other_end (rw p at e))
    go true p = absurd (first_end l (rw p at e))

-- ---- all numbers of a line
-- l is the text of these numbers, where there are any
abbrev pub Spells : List ℕ → Option Numbers → Type 0
Spells l (Some (One a)) = l ≡ parted (a ∷ [])
Spells l (Some (Two a b)) = l ≡ parted (a ∷ b ∷ [])
Spells l (Some (Three a b c)) = l ≡ parted (a ∷ b ∷ c ∷ [])
Spells l None = Unit

third_sound : (l m : List ℕ) (a b : ℕ) → l ≡ decimal a ++ 32 ∷ (decimal b ++ m) → (i : Item) → item m ≡ i → Spells l (third_of a b i)
third_sound l m a b e end p = rw (item_none m p) at e
third_sound l m a b e (number c []) p = rw (item-sound m c [] p) at e
third_sound l m a b e (number c (x ∷ k)) p = tt
third_sound l m a b e other p = tt

second_sound : (l m : List ℕ) (a : ℕ) → l ≡ decimal a ++ m → (i : Item) → item m ≡ i → Spells l (second_of a i)
second_sound l m a e end p = rw (item_none m p) at e
second_sound l m a e (number b k) p = third_sound l k a b (rw (item-sound m b k p) at e) (item k) refl
second_sound l m a e other p = tt

pub numbers-sound : (l : List ℕ) → Spells l (numbers_of l)
unfolding numbers_of
numbers-sound l = go (first l) refl
  where
    go : (i : Item) → first l ≡ i → Spells l (first_of i)
    go end p = tt
    go (number a k) p = second_sound l k a (first_sound l a k p) (item k) refl
    go other p = tt
