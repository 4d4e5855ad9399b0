-- How many records bytes say they have, and where opening leads: on any bytes. Assumes nothing.
use Prim.Native.Nat.{ℕ, ◌-◌, ◌/◌, ◌≤◌, ◌<◌}
use mathlib.Core.Path.{◌≡◌}
use mathlib.Core.Logic.{◌≢◌}
use mathlib.Core.List.{List}
use native.Mathlib.Omega.{arith}
use lib.ListN.{length}
use borrow.Author.Tests.{lt-ltb, le-ltb, eq-eqb, ne_eqb}
use Rattle.archive.specs.Archive.{blocks, records}
use Rattle.reader.specs.Reading.{no_archive, no_such_record, goes, stays, open_at}

pub records_none : (a : List ℕ) → length a / 512 < 2 → records a ≡ 0
unfolding records blocks
records_none a h = let e : length a / 512 - 1 ≡ 0 = omega arith in rw (eq-eqb _ 0 e)

-- where there are records there are bytes
pub some_bytes : (a : List ℕ) (k : ℕ) → k < records a → length a ≢ 0
some_bytes a k h e = omega (arith, records_none a (omega arith))

-- ---- opening, in its three cases
pub open_nothing : (a : List ℕ) (k at : ℕ) → length a ≡ 0 → open_at a k at ≡ stays at no_archive
unfolding open_at
open_nothing a k at e = rw (eq-eqb _ 0 e)

pub open_goes : (a : List ℕ) (k at : ℕ) → k < records a → open_at a k at ≡ goes k
unfolding open_at
open_goes a k at h = rw (ne_eqb _ 0 (some_bytes a k h), lt-ltb _ _ h)

pub open_stays : (a : List ℕ) (k at : ℕ) → length a ≢ 0 → records a ≤ k → open_at a k at ≡ stays at no_such_record
unfolding open_at
open_stays a k at d h = rw (ne_eqb _ 0 d, le-ltb _ _ h)
