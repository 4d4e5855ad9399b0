-- The first four bytes of a record as a number, looked up in a table of those that a header allows. Assumes nothing.
use Rattle.std.specs.Prelude.{ℕ, ◌+◌, ◌*◌, ◌/◌, ◌%◌, ◌<◌, ◌≡◌, List, [], Bool, not, ◌&&◌, cond, eqb, leb, ltb, length, get_or}

-- the limit of a sent (2) record's link, from its station to its peer, or of a received (3) one's, from its peer to its station
unfoldable pub limit_of : List (List ℕ) → ℕ → ℕ → ℕ → ℕ
limit_of m kind s p = cond (eqb kind 2) (get_or (get_or m s []) p 0) (get_or (get_or m p []) s 0)

-- a sent or received record may stand with a station, if that has a count, and a peer
unfoldable pub may_stand : ℕ → List (List ℕ) → ℕ → ℕ → ℕ → Bool
may_stand n m kind s p = ltb p n && not (eqb s p) && ltb 0 (limit_of m kind s p)

-- where a record's first four bytes, as a number, are looked up: the product brings kind, peer and station together, and a byte of
-- kind * 64 + peer * 8 + station is left, which for an own record is 56 + station
unfoldable pub place_of : ℕ → ℕ
place_of x = x * 1073809408 / 16777216 % 256

-- what stands in place i of the table: the first four bytes of that record as a number, or a number that is looked up elsewhere
unfoldable pub front_of : ℕ → List (List ℕ) → ℕ → ℕ
front_of n m i =
    cond (eqb (i / 8) 7)
    (16711681 + 256 * (i % 8))
    (cond (leb 2 (i / 64) && may_stand n m (i / 64) (i % 8) (i / 8 % 8)) (i / 64 + (256 * (i % 8) + 65536 * (i / 8 % 8))) 458752)

-- of a table f, with the first s places of row q filled, there is g: a row is eight places
abbrev pub Row : ℕ → List (List ℕ) → ℕ → ℕ → List ℕ → List ℕ → Type 0
Row n m q s f g =
    (length g ≡ length f) × ((i : ℕ) → (i / 8 ≡ q → i % 8 < s → get_or g i 0 ≡ front_of n m i) × ((i / 8 ≡ q → ⊥) → get_or g i 0 ≡ get_or f i 0))

abbrev pub Fronts : ℕ → List (List ℕ) → List ℕ → Type 0
Fronts n m f = (i : ℕ) → i < 256 → get_or f i 0 ≡ front_of n m i
