-- Reading numbers one byte at a time. Assumes nothing.
use Prim.Native.Nat.{ℕ, ◌+◌, ◌*◌, ◌-◌, ◌<◌, ◌≤◌}
use mathlib.Core.Path.{◌≡◌, refl, sym}
use mathlib.Core.Bool.{Bool, true, false, cond, ◌||◌, true≢false}
use mathlib.Core.List.{List, [], ◌∷◌}
use native.Mathlib.Omega.{arith}
use native.Mathlib.Numerals.{add-one}
use lib.Dec.{eqb, ltb}
use lib.ListN.{length, take, drop, get_or, drop_of_length-le, length-drop}
use lib.Seq.{drop-cons, take_all}
use borrow.Author.Tests.{ltb-false, eqb-true, eqb-false, eq-eqb, ne_eqb}
use Rattle.std.specs.Char.{is_ascii_digit}
use Rattle.decimal.specs.Decimal.{digit}
use Rattle.turnover_input.specs.Fields.{number, other, end, stuck, more, first, item}
use Rattle.turnover_input.specs.Parse.{starts_with}

-- what lies from a place on
pub here : (s : List ℕ) (i : ℕ) → i < length s → drop i s ≡ get_or s i 0 ∷ drop (i + 1) s
here s i h = rw add-one (drop-cons s i 0 h)

module _ (s : List ℕ) (v i : ℕ) where
  pub ends : length s ≤ i → number v (drop (length s) s) ≡ more v (drop i s)
  unfolding more
  ends e = rw (drop_of_length-le s {i = i} e, drop_of_length-le s {i = length s} (omega arith))

  pub stops : i < length s → digit (get_or s i 0) ≡ false → number v (drop i s) ≡ more v (drop i s)
  unfolding more
  stops h e = rw (here s i h, e)

  pub sticks : (y : ℕ) → y ≡ get_or s i 0 - 48 → i < length s → digit (get_or s i 0) ≡ true → (eqb v 0 || ltb 4294967295 (v * 10 + y)) ≡ true → other ≡ more v (drop i s)
  unfolding more stuck
  sticks y q h e f = rw (here s i h, e, ← q, f)

  pub goes : (y : ℕ) → y ≡ get_or s i 0 - 48 → i < length s → digit (get_or s i 0) ≡ true → (eqb v 0 || ltb 4294967295 (v * 10 + y)) ≡ false
      → more (v * 10 + y) (drop (i + 1) s) ≡ more v (drop i s)
  unfolding more stuck
  goes y q h e f = rw (here s i h, e, ← q, f)

pub under : (v w : ℕ) → (eqb v 0 || ltb 4294967295 w) ≡ false → w < 4294967296
under v w e = go (eqb v 0) e
  where
    go : (b : Bool) → (b || ltb 4294967295 w) ≡ false → w < 4294967296
    go true e = absurd (true≢false e)
    go false e = let h = ltb-false 4294967295 w e in omega arith

-- the bytes from a place on, as a slice has them
pub tail : (s : List ℕ) (i : ℕ) → take (length s - i) (drop i s) ≡ drop i s
tail s i = take_all (length s - i) (drop i s) (rw length-drop (omega arith))

-- the test of a digit
pub is_digit : (x : ℕ) → is_ascii_digit x ≡ digit x
unfolding digit
is_digit x = refl

-- at the first byte
pub first_none : (l : List ℕ) → length l ≡ 0 → other ≡ first l
unfolding first
first_none [] e = refl
first_none (x ∷ l) e = absurd (omega arith)

pub item_none : (l : List ℕ) → length l ≡ 0 → item l ≡ end
unfolding item
item_none [] e = refl
item_none (x ∷ l) e = absurd (omega arith)

pub first_bare : (x : ℕ) (l : List ℕ) → digit x ≡ false → other ≡ first (x ∷ l)
unfolding first
first_bare x l e = rw e

pub first_on : (x : ℕ) (l : List ℕ) → digit x ≡ true → (y : ℕ) → y ≡ x - 48 → more y l ≡ first (x ∷ l)
unfolding first
first_on x l e y q = rw (e, q)

pub item_bare : (l : List ℕ) → 0 < length l → starts_with (32 ∷ []) l ≡ false → other ≡ item l
unfolding item starts_with
item_bare [] h e = absurd (omega arith)
item_bare (x ∷ l) h e = go (eqb 32 x) refl
  where
    go : (b : Bool) → eqb 32 x ≡ b → other ≡ cond (eqb x 32) (first l) other
    go true p = absurd (true≢false (rw p at e))
    go false p = rw (ne_eqb x 32 (λ q. eqb-false 32 x p (sym q)))

pub item_on : (l : List ℕ) → starts_with (32 ∷ []) l ≡ true → first (drop 1 l) ≡ item l
unfolding item starts_with
item_on [] e = absurd (true≢false (sym e))
item_on (x ∷ l) e = go (eqb 32 x) refl
  where
    go : (b : Bool) → eqb 32 x ≡ b → first l ≡ cond (eqb x 32) (first l) other
    go true p = rw (eq-eqb x 32 (sym (eqb-true 32 x p)))
    go false p = absurd (true≢false (sym (rw p at e)))
