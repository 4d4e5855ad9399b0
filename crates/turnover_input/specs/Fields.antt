-- The numbers of a line, read off its bytes from the left. Assumes nothing.
use Rattle.std.specs.Prelude.{ℕ, ◌+◌, ◌*◌, ◌-◌, Bool, cond, ◌||◌, Option, None, Some, List, [], ◌∷◌, eqb, ltb}
use Rattle.std.specs.Borrow.{Bor}
use Rattle.decimal.specs.Decimal.{digit}
use Rattle.turnover_input.specs.declared.fields.Numbers.{Numbers}
use Rattle.turnover_input.specs.declared.fields.Numbers.TheVariants.{One, Two, Three}

-- what a list of bytes starts with: nothing (it is empty), a number and what stands behind it, or something else
pub data Item : Type 0 where
  end : Item
  number : ℕ → List ℕ → Item
  other : Item

-- the widest field has four bytes
abbrev pub greatest : ℕ
greatest = 4294967295

-- no digit may follow a number that is 0, nor one that leads past the greatest
unfoldable pub stuck : ℕ → ℕ → Bool
stuck v x = eqb v 0 || ltb greatest (v * 10 + (x - 48))

-- the rest of a number that is v so far
unfoldable pub more : ℕ → List ℕ → Item
more v [] = number v []
more v (x ∷ l) = cond (digit x) (cond (stuck v x) other (more (v * 10 + (x - 48)) l)) (number v (x ∷ l))

-- a number
unfoldable pub first : List ℕ → Item
first [] = other
first (x ∷ l) = cond (digit x) (more (x - 48) l) other

-- a space and a number, or the end
unfoldable pub item : List ℕ → Item
item [] = end
item (x ∷ l) = cond (eqb x 32) (first l) other

-- a number that was read, and what stands behind it, as an item
abbrev pub seen : Option (ℕ × Bor (List ℕ)) → Item
seen None = other
seen (Some p) = number p.0 p.1.now

abbrev pub third_of : ℕ → ℕ → Item → Option Numbers
third_of a b end = Some (Two a b)
third_of a b (number c []) = Some (Three a b c)
third_of a b (number c (x ∷ l)) = None
third_of a b other = None

abbrev pub second_of : ℕ → Item → Option Numbers
second_of a end = Some (One a)
second_of a (number b l) = third_of a b (item l)
second_of a other = None

abbrev pub first_of : Item → Option Numbers
first_of end = None
first_of (number a l) = second_of a (item l)
first_of other = None

-- one, two or three numbers, parted by single spaces, up to the end
unfoldable pub numbers_of : List ℕ → Option Numbers
numbers_of l = first_of (first l)
