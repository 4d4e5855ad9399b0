-- An opened reader reads each record from there on once, in order, to the last. Assumes nothing.
use Prim.Native.Nat.{ℕ, zero, suc, ◌+◌, ◌-◌, ◌/◌, ◌%◌, ◌≤◌, ◌<◌}
use mathlib.Core.Path.{◌≡◌, ◌∙◌}
use mathlib.Core.List.{List, [], ◌∷◌}
use mathlib.Core.Bool.{true}
use native.Mathlib.Omega.{arith}
use native.Mathlib.Decide.{dec_lt}
use lib.ListN.{length, get_or}
use Rattle.record.specs.Record.{well_made_record}
use Rattle.entries.specs.Entries.{record_of}
use Rattle.archive.specs.Archive.{block_of, records, record_at, archive_test}
use Rattle.reader.specs.Reading.{reading}
use Rattle.reader.proofs.Laws.{some_bytes, open_goes, open_stays}
use Rattle.archive.proofs.Tested.{record_place, record_well_made, record_length_lem}

-- ---- what an opened reader stands on
pub record Opened (a : List ℕ) (k : ℕ) : Type 0 where
  pub tested : archive_test a ≡ true
  pub there : k < records a

-- what it hands back: the record in its block, 32 bytes that are well made
pub record Right (a : List ℕ) (k : ℕ) : Type 0 where
  pub in_place : record_at a k ≡ record_of (block_of a (k / 15)) (k % 15)
  pub whole : length (record_at a k) ≡ 32
  pub well_made : well_made_record (record_at a k) ≡ true

pub record_right : (a : List ℕ) (k : ℕ) → Opened a k → Right a k
record_right a k o =
    record {
      in_place = record_place a o.tested k o.there;
      whole = record_length_lem a o.tested k o.there;
      well_made = record_well_made a o.tested k o.there;
    }

-- ---- reading, on any bytes: from place k on, to the last
reading-goes : (a : List ℕ) (n k : ℕ) → k + 1 < records a → reading (suc n) a k ≡ record_at a k ∷ reading n a (k + 1)
unfolding reading
reading-goes a n k h = rw (open_goes a (k + 1) k h)

reading-stays : (a : List ℕ) (n k : ℕ) → k < records a → records a ≤ k + 1 → reading (suc n) a k ≡ record_at a k ∷ []
unfolding reading
reading-stays a n k l h = rw (open_stays a (k + 1) k (some_bytes a k l) h)

record Met (a : List ℕ) (n k : ℕ) : Type 0 where
  all : length (reading n a k) ≡ records a - k
  each : (i : ℕ) → k + i < records a → get_or (reading n a k) i [] ≡ record_at a (k + i)

met_last : (a : List ℕ) (n k : ℕ) → k < records a → records a ≤ k + 1 → Met a (suc n) k
met_last a n k h g = record { all = rw (reading-stays a n k h g) (omega arith); each = each }
  where
    each : (i : ℕ) → k + i < records a → get_or (reading (suc n) a k) i [] ≡ record_at a (k + i)
    each zero l = let e : k + 0 ≡ k = omega arith in rw (reading-stays a n k h g, e)
    each (suc i) l = absurd (omega arith)

met_more : (a : List ℕ) (n k : ℕ) → k + 1 < records a → Met a n (k + 1) → Met a (suc n) k
met_more a n k h m = record { all = rw (reading-goes a n k h) (omega (arith, m.all)); each = each }
  where
    each : (i : ℕ) → k + i < records a → get_or (reading (suc n) a k) i [] ≡ record_at a (k + i)
    each zero l = let e : k + 0 ≡ k = omega arith in rw (reading-goes a n k h, e)
    each (suc i) l = let e : k + suc i ≡ k + 1 + i = omega arith in rw (reading-goes a n k h, e) (m.each i (omega arith))

met_from : (a : List ℕ) (n k : ℕ) → k < records a → records a ≤ n + k → Met a n k
met_from a zero k h g = absurd (omega arith)
met_from a (suc n) k h g = go (dec_lt (k + 1) (records a)) (λ (l : k + 1 < records a). met_from a n (k + 1) l (omega arith))
  where
    go : Dec (k + 1 < records a) → (k + 1 < records a → Met a n (k + 1)) → Met a (suc n) k
    go (yes l) m = met_more a n k l (m l)
    go (no d) m = met_last a n k h (omega arith)

-- ---- reading a tested archive
-- l is every record from number k on, once, in order
pub record ReadFrom (a : List ℕ) (k : ℕ) (l : List (List ℕ)) : Type 0 where
  pub all : length l ≡ records a - k
  pub each : (i : ℕ) → k + i < records a → get_or l i [] ≡ record_of (block_of a ((k + i) / 15)) ((k + i) % 15)

-- an opened reader that moves on until that is refused; n moves are enough
pub reads_on : (a : List ℕ) (k : ℕ) → Opened a k → (n : ℕ) → records a ≤ n + k → ReadFrom a k (reading n a k)
reads_on a k o n g =
    let m = met_from a n k o.there g in
    record { all = m.all; each = λ (i : ℕ) (l : k + i < records a). m.each i l ∙ record_place a o.tested (k + i) l }
