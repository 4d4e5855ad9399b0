-- The records of a block tested together, as the code does it: their counts by columns, their first bytes by a table. The test itself is in
-- BlockTest. Assumes nothing.
use Rattle.std.specs.Prelude.{ℕ, ◌+◌, ◌*◌, ◌%◌, ◌<◌, ◌≤◌, ◌≡◌, List, Bool, ◌&&◌, eqb, leb, get_or}
use Rattle.codec.specs.Num.{num_at}
use Rattle.codec.specs.Every.{every}
use Rattle.front_table.specs.Fronts.{place_of}
use Rattle.clock.specs.Range.{last_phase, ceiling_of}
use Rattle.checksum.specs.Check.{sealed}
use Rattle.entries.specs.Entries.{record_of, tail_fits}

-- ---- the counts
-- the count of station i in place k of a block
abbrev pub count_at : List ℕ → ℕ → ℕ → ℕ
count_at l i k = num_at 2 l (32 + k * 32 + 2 * i)

-- station by station, each count of the fifteen places
unfoldable pub counts_test : ℕ → ℕ → List ℕ → Bool
counts_test n t l = every 8 (λ (i : ℕ). every 15 (λ (k : ℕ). leb (count_at l i k) (ceiling_of n t i)))

-- ---- a record
-- its first bytes stand where they are looked up, and its station has a count
unfoldable pub front_test : List ℕ → List ℕ → Bool
front_test f l =
    eqb (get_or f (place_of (num_at 4 l 0)) 0) (num_at 4 l 0) && leb 1 (num_at 2 l (16 + 2 * (place_of (num_at 4 l 0) % 8)))

abbrev pub spare_test : List ℕ → Bool
spare_test l = eqb (num_at 4 l 12) 0

abbrev pub phase_test : List ℕ → Bool
phase_test l = leb (num_at 4 l 4) last_phase

unfoldable pub record_test : List ℕ → List ℕ → Bool
record_test f l = front_test f l && spare_test l && phase_test l

-- what is gathered of the first k records of a block; no phase is above what they are joined to
abbrev pub Looked : List ℕ → List ℕ → ℕ → ℕ → ℕ → ℕ → ℕ → Type 0
Looked f l k wrong least spare phases =
    ((eqb wrong 0 && leb 1 least) ≡ every k (λ (i : ℕ). front_test f (record_of l i))) × (eqb spare 0 ≡ every k (λ (i : ℕ). spare_test (record_of l i)))
    × ((i : ℕ) → i < k → num_at 4 (record_of l i) 4 ≤ phases)

-- ---- a block
-- the first `count` records, but for their counts, zeros behind them, and the check
unfoldable pub sound_test : List ℕ → List ℕ → ℕ → Bool
sound_test f l count = every count (λ (k : ℕ). record_test f (record_of l k)) && (tail_fits l count && sealed l)
