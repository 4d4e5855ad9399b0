-- Pieces of a line. Assumes nothing.
use Prim.Native.Nat.{ℕ, ◌+◌, ◌^◌, ◌<◌, ◌≤◌, min}
use mathlib.Core.Path.{◌≡◌, ◌∙◌, sym}
use mathlib.Core.List.{List, [], ◌∷◌, ◌++◌, append_assoc, append-nil}
use native.Mathlib.Omega.{arith}
use native.Mathlib.Decide.{dec_lt}
use native.Mathlib.Numerals.{add-one}
use mir.Syntax.{w8, w16, w32, w64}
use mir.Val.{Fits}
use lib.ListN.{length, take, get_or}
use lib.Seq.{take-suc, take_all}
use Rattle.refusals.specs.declared.Refusal.{Refusal}
use Rattle.refusals.specs.declared.Refusal.TheVariants.{Malformed, IllFormedState, NetworkRule, NoSuchStation, ModeForbids, UsedUp, EmptyLink, NoMorePhases, DifferentPhases, BufferLength, NoSuchRecord, IllKept, SheetTooLong}
use Rattle.refusals.specs.Numbers.{number_of}
use Rattle.decimal.specs.Ascii.{ascii}
use Rattle.decimal.specs.Decimal.{decimal, spaced}
use Rattle.decimal.proofs.DecimalLaws.{decimal-length}
use Rattle.turnover_output.specs.Answer.{opening}

-- ---- the digits of numbers of eight bytes, four, two, one
pub length64 : (x : ℕ) → Fits w64 x → length (decimal x) ≤ 20
length64 x h = decimal-length 19 x (omega arith)

pub length32 : (x y : ℕ) → y ≡ x → Fits w32 x → length (decimal y) ≤ 10
length32 x y e h = decimal-length 9 y (omega arith)

pub length16 : (x y : ℕ) → y ≡ x → Fits w16 x → length (decimal y) ≤ 5
length16 x y e h = decimal-length 4 y (omega arith)

pub length8 : (x y : ℕ) → y ≡ x → Fits w8 x → length (decimal y) ≤ 3
length8 x y e h = decimal-length 2 y (omega arith)

-- the number of a refusal
pub refusal-length : (r : Refusal) (y : ℕ) → y ≡ number_of r → length (decimal y) ≤ 3
refusal-length r y e = decimal-length 2 y (rw e (below r))
  where
    below : (r : Refusal) → number_of r < 10 ^ 3
    below Malformed = omega arith
    below IllFormedState = omega arith
    below NetworkRule = omega arith
    below NoSuchStation = omega arith
    below ModeForbids = omega arith
    below UsedUp = omega arith
    below EmptyLink = omega arith
    below NoMorePhases = omega arith
    below DifferentPhases = omega arith
    below BufferLength = omega arith
    below NoSuchRecord = omega arith
    below IllKept = omega arith
    below SheetTooLong = omega arith

-- ---- the pieces of an opening
pub opening-pieces : (number : ℕ) (word : List ℕ) (phase station : ℕ) → decimal number ++ word ++ decimal phase ++ ascii " " ++ decimal station ≡ opening number word phase station
unfolding opening
opening-pieces number word phase station = rw append-nil (simp append_assoc)

-- ---- one count more
spaced_snoc : (l : List ℕ) (x : ℕ) → spaced (l ++ (x ∷ [])) ≡ spaced l ++ (32 ∷ decimal x)
spaced_snoc [] x = rw append-nil
spaced_snoc (y ∷ l) x = rw (spaced_snoc l x) (simp append_assoc)

pub spaced_more : (l : List ℕ) (i : ℕ) → i < length l → spaced (take (i + 1) l) ≡ spaced (take i l) ++ ascii " " ++ decimal (get_or l i 0)
spaced_more l i h = rw (add-one, take-suc l i 0 h) (spaced_snoc (take i l) (get_or l i 0) ∙ simp append_assoc)

-- the first n of eight, n perhaps more
pub first_of : (n m : ℕ) (l : List ℕ) → length l ≡ 8 → m ≡ min n 8 → take m l ≡ take n l
first_of n m l s e = go (dec_lt n 8)
  where
    go : Dec (n < 8) → take m l ≡ take n l
    go (yes p) = let k : m ≡ n = omega arith in rw k
    go (no p) = take_all m l (omega arith) ∙ sym (take_all n l (omega arith))
