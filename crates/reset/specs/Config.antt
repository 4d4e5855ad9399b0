-- The header's fields (document 01, "The network"), how they are read, and the two tests of a header: well made (else number 1), and the network rules
-- (else number 3). Assumes nothing.
use Rattle.std.specs.Prelude.{ℕ, ◌+◌, List, [], Bool, cond, ◌&&◌, ◌||◌, eqb, leb, ltb, get_or, length}
use Rattle.std.specs.Bool.{beq}
use Rattle.codec.specs.Every.{every, sum}
use Rattle.reset.specs.Reach.{limit, linked, every_reached}

-- What setup fixes: stations are 0 to n - 1, the ceiling t bounds each count, each station has an allowance of own entries a phase, and each link has a
-- limit of messages a phase, in row i and column j for the link from i to j; 0 means no link.
pub record Config : Type 0 where
  pub n : ℕ
  pub t : ℕ
  pub allowances : List ℕ
  pub limits : List (List ℕ)

-- ---- readings
-- i is a station
unfoldable pub is_station : Config → ℕ → Bool
is_station c i = ltb i c.n

-- stations with a link are neighbours
unfoldable pub neighbours : Config → ℕ → ℕ → Bool
neighbours c i j = linked c.limits i j

-- the limit of the link from i to j while its sender is in phase p: the same in every phase
unfoldable pub limit_at : Config → ℕ → ℕ → ℕ → ℕ
limit_at c p i j = limit c.limits i j

-- station i's allowance while it is in phase p: the same in every phase
unfoldable pub allowance_at : Config → ℕ → ℕ → ℕ
allowance_at c p i = get_or c.allowances i 0

-- how many items a link can hold: two more than its limit; none where there is no link
abbrev pub places_of : ℕ → ℕ
places_of l = l + 2

unfoldable pub places : Config → ℕ → ℕ → ℕ
places c i j = cond (neighbours c i j) (places_of (limit c.limits i j)) 0

-- ---- well made: the ranges of the fields, and their number
-- n from 1 to 8, t from 1 to 65,535
abbrev pub size_fits : ℕ → ℕ → Bool
size_fits n t = (leb 1 n && leb n 8) && (leb 1 t && leb t 65535)

-- eight allowances, each from 0 to 65,535
abbrev pub allowance_fits : List ℕ → ℕ → Bool
allowance_fits a i = leb (get_or a i 0) 65535

unfoldable pub allowances_fit : List ℕ → Bool
allowances_fit a = eqb (length a) 8 && every 8 (allowance_fits a)

-- eight rows of eight limits, each from 0 to 32
abbrev pub limit_fits : List (List ℕ) → ℕ → ℕ → Bool
limit_fits m i j = leb (limit m i j) 32

abbrev pub row_fits : List (List ℕ) → ℕ → Bool
row_fits m i = eqb (length (get_or m i [])) 8 && every 8 (limit_fits m i)

unfoldable pub limits_fit : List (List ℕ) → Bool
limits_fit m = eqb (length m) 8 && every 8 (row_fits m)

-- every field in its range
unfoldable pub well_made : Config → Bool
well_made c = size_fits c.n c.t && (allowances_fit c.allowances && limits_fit c.limits)

-- ---- the network rules
-- a zero diagonal
abbrev pub zero_at : List (List ℕ) → ℕ → Bool
zero_at m i = eqb (limit m i i) 0

unfoldable pub zero_diagonal : List (List ℕ) → Bool
zero_diagonal m = every 8 (zero_at m)

-- the limit from i to j is 0 exactly when that from j to i is
abbrev pub both_or_none : List (List ℕ) → ℕ → ℕ → Bool
both_or_none m i j = beq (eqb (limit m i j) 0) (eqb (limit m j i) 0)

unfoldable pub linked_both_ways : List (List ℕ) → Bool
linked_both_ways m = every 8 (λ (i : ℕ). every 8 (both_or_none m i))

-- nothing is set for stations n and above: no allowance, and no limit to or from them
abbrev pub allowance_below : ℕ → List ℕ → ℕ → Bool
allowance_below n a i = ltb i n || eqb (get_or a i 0) 0

abbrev pub limit_below : ℕ → List (List ℕ) → ℕ → ℕ → Bool
limit_below n m i j = (ltb i n && ltb j n) || eqb (limit m i j) 0

unfoldable pub nothing_above : ℕ → List ℕ → List (List ℕ) → Bool
nothing_above n a m = every 8 (allowance_below n a) && every 8 (λ (i : ℕ). every 8 (limit_below n m i))

-- the limits of the two links between i and j: 0 where they are no neighbours
abbrev pub between : List (List ℕ) → ℕ → ℕ → ℕ
between m i j = limit m i j + limit m j i

-- the sum rule: for each i, its allowance and the limits to and from its neighbours are at most t together
abbrev pub within_at : ℕ → List ℕ → List (List ℕ) → ℕ → Bool
within_at t a m i = leb (get_or a i 0 + sum 8 (between m i)) t

unfoldable pub within_ceiling : ℕ → List ℕ → List (List ℕ) → Bool
within_ceiling t a m = every 8 (within_at t a m)

-- all of them, in document 01's order
unfoldable pub network_rules : Config → Bool
network_rules c =
    zero_diagonal c.limits
    && (linked_both_ways c.limits
    && (nothing_above c.n c.allowances c.limits && (every_reached c.n c.limits && within_ceiling c.t c.allowances c.limits)))
