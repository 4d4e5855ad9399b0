-- Laws of an archive. Assumes nothing.
use Prim.Native.Nat.{ℕ, ◌+◌, ◌*◌, ◌-◌, ◌/◌, ◌%◌, min, ◌≤◌, ◌<◌}
use mathlib.Core.Path.{◌≡◌}
use mathlib.Core.Logic.{◌≢◌}
use mathlib.Core.List.{List}
use mathlib.Core.Bool.{true, false, ◌||◌}
use native.Mathlib.Omega.{arith}
use lib.Dec.{eqb}
use lib.ListN.{length, take, drop, length-take}
use borrow.Author.Tests.{eqb-true, ne_eqb}
use Rattle.codec.proofs.EveryLaws.{both, every_at}
use Rattle.header.specs.Header.{parse_header, table_at, well_made_header}
use Rattle.header.proofs.Laws.{well_made-length}
use Rattle.entries.specs.Entries.{count_of, stored_number, well_made_entries}
use Rattle.block_test.specs.BlockTest.{all_known, block_fits}
use Rattle.archive.specs.Archive.{block_of, blocks, blocks_fit, archive_test}

-- fewer than 512 bytes have no header
pub short-refused : (a : List ℕ) → length a < 512 → well_made_header (take 512 a) ≡ false
unfolding well_made_header
short-refused a h =
    let n : length (take 512 a) ≢ 512 = rw length-take (omega arith) in
    rw (ne_eqb _ 512 n)

-- ---- a tested archive
pub test_parts : (a : List ℕ) → archive_test a ≡ true
    → (length a % 512 ≡ 0) × (well_made_header (take 512 a) ≡ true) × (blocks_fit (parse_header (take 512 a)) (table_at 8 (take 512 a) 32) a (blocks a) ≡ true)
unfolding archive_test
test_parts a h =
    let p = both (eqb (length a % 512) 0) _ h in
    let q = both (well_made_header (take 512 a)) _ p.1 in
    (eqb-true _ _ p.0, q.0, q.1)

-- it has a header
pub test-long : (a : List ℕ) → archive_test a ≡ true → 512 ≤ length a
test-long a h =
    let n : length (take 512 a) ≡ 512 = well_made-length (take 512 a) (test_parts a h).1 in
    let m : length (take 512 a) ≡ min 512 (length a) = length-take 512 a in
    omega arith

-- and its blocks fill the rest
pub test-blocks : (a : List ℕ) → archive_test a ≡ true → length a ≡ (blocks a + 1) * 512
unfolding blocks
test-blocks a h = omega (arith, (test_parts a h).0, test-long a h)

-- each block fits its place
pub block_parts : (a : List ℕ) → archive_test a ≡ true → (b : ℕ) → b < blocks a
    → (well_made_entries (block_of a b) ≡ true) × (stored_number (block_of a b) ≡ b + 1) × ((eqb (b + 1) (blocks a) || eqb (count_of (block_of a b)) 15) ≡ true)
    × (all_known (parse_header (take 512 a)) (table_at 8 (take 512 a) 32) (block_of a b) ≡ true)
unfolding blocks_fit block_fits
block_parts a h b l =
    let w = every_at (blocks a) _ b (test_parts a h).2 l in
    let p = both (well_made_entries (block_of a b)) _ w in
    let q = both (eqb (stored_number (block_of a b)) (b + 1)) _ p.1 in
    let r = both (eqb (b + 1) (blocks a) || eqb (count_of (block_of a b)) 15) _ q.1 in
    (p.0, eqb-true _ _ q.0, r.0, r.1)

-- the count that is read of the last block
pub last_count : (a : List ℕ) → archive_test a ≡ true → (x : ℕ) → 1 ≤ length a / 512 - 1
    → x ≡ count_of (take ((length a / 512 - 1) * 512 + 512 - (length a / 512 - 1) * 512) (drop ((length a / 512 - 1) * 512) a)) → x ≡ count_of (block_of a (length a / 512 - 1 - 1))
unfolding block_of
last_count a h x l e =
    let f : (length a / 512 - 1) * 512 + 512 - (length a / 512 - 1) * 512 ≡ 512 = omega arith in
    let g : length a / 512 - 1 - 1 + 1 ≡ length a / 512 - 1 = omega arith in
    rw g (rw f at e)
