-- The calls on an archive: how great a count can be, a found record, and an unordered list. Assumes nothing.
use Prim.Native.Nat.{ℕ, ◌+◌, ◌*◌, ◌-◌, ◌≤◌, ◌<◌}
use native.Mathlib.Omega.{arith}
use mathlib.Core.Path.{◌≡◌, refl, ap, ◌∙◌}
use mathlib.Core.List.{List}
use mathlib.Core.Bool.{Bool, true, false, cond}
use lib.Dec.{eqb, ltb}
use lib.ListN.{length}
use borrow.Author.Tests.{eqb-false, eq-eqb, ltb-true}
use Rattle.entries.specs.Entries.{count_of}
use Rattle.entries.proofs.Laws.{well_made-count}
use Rattle.archive.specs.Archive.{block_of, blocks, archive_test, records, record_at, count_records, find_record, found_record}
use Rattle.archive.proofs.Laws.{test-blocks, block_parts}
use Rattle.archive.proofs.Tested.{record_length_lem}
use Rattle.concurrent.specs.Unordered.{is_unordered, concurrent_count, unordered_count, list_answer, unordered_answer, UnorderedList}
use Rattle.std.specs.Prelude.{Result, Ok, Err}
use Rattle.refusals.specs.declared.Refusal.{Refusal}
use Rattle.refusals.specs.declared.Refusal.TheVariants.{Malformed, BufferLength, NoSuchRecord}
use Rattle.codec.proofs.CountLaws.{count_most}
use Rattle.host_numbers.specs.Numbers.{greatest, counted_number}
use Rattle.melontime.specs.Archives.{HostList}

-- at most 15 records to a block
pub records-most : (a : List ℕ) → archive_test a ≡ true → records a * 512 ≤ length a * 15
unfolding records
records-most a h = go (eqb (blocks a) 0) refl
  where
    go : (t : Bool) → eqb (blocks a) 0 ≡ t → cond t 0 ((blocks a - 1) * 15 + count_of (block_of a (blocks a - 1))) * 512 ≤ length a * 15
    go true e = omega arith
    go false e =
        let n : blocks a ≡ 0 → ⊥ = eqb-false _ _ e in
        let w = well_made-count (block_of a (blocks a - 1)) (block_parts a h (blocks a - 1) (omega arith)).0 in
        omega (arith, test-blocks a h)

-- so that a count's number is one of 64 bits
pub counted-small : (a : List ℕ) → length a ≤ greatest → counted_number (count_records a) ≤ greatest
unfolding count_records
counted-small a h = go (archive_test a) refl
  where
    go : (t : Bool) → archive_test a ≡ t → counted_number (cond t (Ok (records a)) (Err Malformed)) ≤ greatest
    go true e = omega (arith, records-most a e)
    go false e = omega arith

pub listed_small : (a : List ℕ) (k places : ℕ) → length a ≤ greatest → counted_number (unordered_answer a k places) ≤ greatest
unfolding unordered_answer list_answer concurrent_count
listed_small a k places h = go (archive_test a) (ltb k (records a)) (ltb places (unordered_count a k)) refl
  where
    go : (t u v : Bool) → archive_test a ≡ t → counted_number (cond t (cond u (cond v (Err BufferLength) (Ok (unordered_count a k))) (Err NoSuchRecord)) (Err Malformed)) ≤ greatest
    go true true false e = omega (arith, records-most a e, count_most (is_unordered a k) (records a))
    go true true true e = omega arith
    go true false v e = omega arith
    go false u v e = omega arith

-- ---- a found record
find_parts : (a : List ℕ) (k : ℕ) → find_record a k ≡ 0 → (archive_test a ≡ true) × (k < records a)
unfolding find_record
find_parts a k e = go (archive_test a) (ltb k (records a)) refl refl e
  where
    go : (t u : Bool) → archive_test a ≡ t → ltb k (records a) ≡ u → ◌≡◌ {A = ℕ} (cond t (cond u 0 12) 1) 0 → (archive_test a ≡ true) × (k < records a)
    go true true f g h = (f, ltb-true _ _ g)
    go true false f g h = absurd (omega arith)
    go false u f g h = absurd (omega arith)

pub found-length : (a : List ℕ) (k : ℕ) → find_record a k ≡ 0 → length (record_at a k) ≡ 32
found-length a k e = let p = find_parts a k e in record_length_lem a p.0 k p.1

pub found_is : (a : List ℕ) (k : ℕ) → find_record a k ≡ 0 → found_record a k ≡ record_at a k
unfolding found_record
found_is a k e = rw (eq-eqb _ 0 e)

-- ---- an unordered list
pub listing : {a : List ℕ} {k : ℕ} {before after : List ℕ} {q : Result ℕ Refusal} {r : ℕ} → UnorderedList a k before after q → r ≡ counted_number q → HostList a k before after r
listing u e = record { number = e ∙ ap (λ (x : Result ℕ Refusal). counted_number x) u.answers; leaves = u.leaves }
