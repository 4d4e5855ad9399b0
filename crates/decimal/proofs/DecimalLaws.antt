-- Every number has one text, the digits without leading zeros that stand for it. Assumes nothing.
use Prim.Native.Nat.{ℕ, zero, suc, ◌+◌, ◌*◌, ◌-◌, ◌/◌, ◌%◌, ◌^◌, ◌<◌, ◌≤◌}
use mathlib.Core.Path.{◌≡◌, refl, ◌∙◌, sym}
use mathlib.Core.Bool.{Bool, true, false, not, false≢true}
use mathlib.Core.List.{List, [], ◌∷◌, ◌++◌, append_assoc, append-nil}
use native.Mathlib.Omega.{arith}
use native.Mathlib.Nat.{pow-suc, zero-add}
use lib.Dec.{eqb, leb, ltb}
use lib.ListN.{length, length-append}
use borrow.Author.Tests.{ltb-true, ltb-false, lt-ltb, le-ltb, leb-true, le-leb, eqb-false, ne_eqb, not-true}
use Rattle.codec.proofs.EveryLaws.{both}
use Rattle.decimal.specs.Decimal.{decimal, decimal_in, digit, all_digits, numeral, value_from, value_of}

-- ---- the digits of a number, the last first
step : (k j n : ℕ) (c : Bool) → ltb n 10 ≡ c → (10 ≤ n → decimal_in k (n / 10) ≡ decimal_in j (n / 10)) → decimal_in (suc k) n ≡ decimal_in (suc j) n
unfolding decimal_in
step k j n true e f = rw e
step k j n false e f = rw (e, f (ltb-false n 10 e))

-- more places change nothing
places : (k j n : ℕ) → n < k → n < j → decimal_in k n ≡ decimal_in j n
places zero j n a b = absurd (omega arith)
places (suc k) zero n a b = absurd (omega arith)
places (suc k) (suc j) n a b = step k j n (ltb n 10) refl (λ h. places k j (n / 10) (omega arith) (omega arith))

pub decimal-small : (n : ℕ) → n < 10 → decimal n ≡ (48 + n) ∷ []
unfolding decimal decimal_in
decimal-small n h = rw (lt-ltb n 10 h)

pub decimal_large : (n : ℕ) → 10 ≤ n → decimal n ≡ decimal (n / 10) ++ ((48 + n % 10) ∷ [])
unfolding decimal decimal_in
decimal_large n h = rw (le-ltb n 10 h, places n (suc (n / 10)) (n / 10) (omega arith) (omega arith))

pub decimal_more : (v d : ℕ) → 0 < v → d < 10 → decimal (v * 10 + d) ≡ decimal v ++ ((48 + d) ∷ [])
decimal_more v d h l =
    let q : (v * 10 + d) / 10 ≡ v = omega arith in
    let r : (v * 10 + d) % 10 ≡ d = omega arith in
    decimal_large (v * 10 + d) (omega arith) ∙ rw (q, r)

-- a proof for numbers of one digit, and for others from that for n / 10
pub by_digits : (P : ℕ → Type 0) → ((n : ℕ) → n < 10 → P n) → ((n : ℕ) → 10 ≤ n → P (n / 10) → P n) → (n : ℕ) → P n
by_digits P one more n = below (suc n) n (omega arith)
  where
    below : (k n : ℕ) → n < k → P n
    below zero n h = absurd (omega arith)
    below (suc k) n h = go (ltb n 10) refl (below k)
      where
        go : (c : Bool) → ltb n 10 ≡ c → ((m : ℕ) → m < k → P m) → P n
        go true e f = one n (ltb-true n 10 e)
        go false e f = let g : 10 ≤ n = ltb-false n 10 e in more n g (f (n / 10) (omega arith))

-- ---- a number read back
pub value_append : (v : ℕ) (a b : List ℕ) → value_from v (a ++ b) ≡ value_from (value_from v a) b
unfolding value_from
value_append v [] b = refl
value_append v (x ∷ a) b = value_append (v * 10 + (x - 48)) a b

value_digit : (v d : ℕ) → value_from v ((48 + d) ∷ []) ≡ v * 10 + d
unfolding value_from
value_digit v d = omega arith

-- the text of n stands for n
pub value_decimal : (n : ℕ) → value_of (decimal n) ≡ n
value_decimal =
    by_digits (λ (n : ℕ). value_of (decimal n) ≡ n)
    (λ n h. rw (decimal-small n h, value_digit) (omega arith))
    (λ n h e. rw (decimal_large n h, value_append, e, value_digit) (omega arith))

-- no two numbers have the same text
pub decimal_injective : (m n : ℕ) → decimal m ≡ decimal n → m ≡ n
decimal_injective m n e = sym (value_decimal m) ∙ rw e (value_decimal n)

-- ---- digits without leading zeros
pub digit-range : (x : ℕ) → digit x ≡ true → (48 ≤ x) × (x ≤ 57)
unfolding digit
digit-range x e = let p = both (leb 48 x) (leb x 57) e in (leb-true 48 x p.0, leb-true x 57 p.1)

pub digit_of : (d : ℕ) → d < 10 → digit (48 + d) ≡ true
unfolding digit
digit_of d h = rw (le-leb 48 (48 + d) (omega arith), le-leb (48 + d) 57 (omega arith))

digits_more : (l : List ℕ) (x : ℕ) → all_digits l ≡ true → digit x ≡ true → all_digits (l ++ (x ∷ [])) ≡ true
unfolding all_digits
digits_more [] x e d = rw d
digits_more (y ∷ l) x e d = let p = both (digit y) (all_digits l) e in rw p.0 (digits_more l x p.1 d)

numeral_digits : (l : List ℕ) → numeral l ≡ true → all_digits l ≡ true
unfolding numeral all_digits
numeral_digits [] e = refl
numeral_digits (x ∷ []) e = rw e
numeral_digits (x ∷ y ∷ l) e = (both (not (eqb x 48)) (all_digits (x ∷ y ∷ l)) e).1

-- one more digit, behind digits that do not stand for 0
numeral_more : (l : List ℕ) (d : ℕ) → numeral l ≡ true → (value_of l ≡ 0 → ⊥) → d < 10 → numeral (l ++ ((48 + d) ∷ [])) ≡ true
unfolding numeral value_from
numeral_more [] d e z h = absurd (false≢true e)
numeral_more (x ∷ []) d e z h =
    rw (ne_eqb x 48 (λ (q : x ≡ 48). z (omega arith))) (digits_more (x ∷ []) (48 + d) (numeral_digits (x ∷ []) e) (digit_of d h))
numeral_more (x ∷ y ∷ l) d e z h =
    let p = both (not (eqb x 48)) (all_digits (x ∷ y ∷ l)) e in
    rw p.0 (digits_more (x ∷ y ∷ l) (48 + d) p.1 (digit_of d h))

-- the text of a number is digits without leading zeros
pub decimal-numeral : (n : ℕ) → numeral (decimal n) ≡ true
unfolding numeral
decimal-numeral =
    by_digits (λ (n : ℕ). numeral (decimal n) ≡ true)
    (λ n h. rw (decimal-small n h) (digit_of n h))
    (λ n h e. rw (decimal_large n h) (numeral_more (decimal (n / 10)) (n % 10) e (λ (z : value_of (decimal (n / 10)) ≡ 0). omega (arith, value_decimal (n / 10))) (omega arith)))

pub digit_text : (x : ℕ) → digit x ≡ true → decimal (x - 48) ≡ x ∷ []
digit_text x d =
    let r = digit-range x d in
    let e : 48 + (x - 48) ≡ x = omega arith in
    decimal-small (x - 48) (omega arith) ∙ rw e

-- one more digit behind a number that is not 0
pub digit-behind : (v x : ℕ) → 0 < v → digit x ≡ true → decimal (v * 10 + (x - 48)) ≡ decimal v ++ (x ∷ [])
digit-behind v x h d =
    let r = digit-range x d in
    let e : 48 + (x - 48) ≡ x = omega arith in
    decimal_more v (x - 48) h (omega arith) ∙ rw e

digits_behind : (v : ℕ) (l : List ℕ) → 0 < v → all_digits l ≡ true → decimal (value_from v l) ≡ decimal v ++ l
unfolding value_from all_digits
digits_behind v [] h e = sym (append-nil (decimal v))
digits_behind v (x ∷ l) h e =
    let p = both (digit x) (all_digits l) e in
    digits_behind (v * 10 + (x - 48)) l (omega arith) p.1 ∙ rw (digit-behind v x h p.0, append_assoc)

not-zero : (x : ℕ) → not (eqb x 48) ≡ true → 48 ≤ x → 0 < x - 48
not-zero x e h = let d : x ≡ 48 → ⊥ = eqb-false x 48 (not-true (eqb x 48) e) in omega arith

-- digits without leading zeros are the text of the number that they stand for
pub numeral-decimal : (l : List ℕ) → numeral l ≡ true → decimal (value_of l) ≡ l
unfolding numeral value_from all_digits
numeral-decimal [] e = absurd (false≢true e)
numeral-decimal (x ∷ []) e = rw zero-add (digit_text x e)
numeral-decimal (x ∷ y ∷ l) e =
    let p = both (not (eqb x 48)) (all_digits (x ∷ y ∷ l)) e in
    let d = both (digit x) (all_digits (y ∷ l)) p.1 in
    let r = digit-range x d.0 in
    rw zero-add (digits_behind (x - 48) (y ∷ l) (not-zero x p.0 r.0) d.1 ∙ rw (digit_text x d.0))

-- ---- how long a text is
longer : (k n : ℕ) → (10 ≤ n → length (decimal (n / 10)) ≤ k) → length (decimal n) ≤ suc k
longer k n f = go (ltb n 10) refl
  where
    go : (c : Bool) → ltb n 10 ≡ c → length (decimal n) ≤ suc k
    go true e = rw (decimal-small n (ltb-true n 10 e)) (omega arith)
    go false e = let g = f (ltb-false n 10 e) in rw (decimal_large n (ltb-false n 10 e), length-append) (omega arith)

-- a number below 10 ^ k has at most k digits
pub decimal-length : (k n : ℕ) → n < 10 ^ suc k → length (decimal n) ≤ suc k
decimal-length zero n h = longer zero n (λ g. absurd (omega arith))
decimal-length (suc k) n h =
    let p : n < 10 ^ suc k * 10 = rw pow-suc at h in
    longer (suc k) n (λ g. decimal-length k (n / 10) (omega arith))
