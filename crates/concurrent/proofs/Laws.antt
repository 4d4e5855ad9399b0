-- Concurrent records of an archive: the relation and its lists. Assumes nothing.
use Prim.Native.Nat.{ℕ, ◌≤◌, ◌<◌}
use mathlib.Core.Path.{◌≡◌, refl, ◌∙◌, sym}
use mathlib.Core.Logic.{◌↔◌}
use mathlib.Core.List.{List, Memᴰ}
use mathlib.Core.Bool.{Bool, true, false, cond, and-false, true≢false}
use native.Mathlib.Omega.{arith}
use lib.Dec.{eqb, ltb}
use lib.ListN.{length, get_or}
use borrow.Author.Tests.{eqb-true, eqb-false, ltb-true, ltb-false, lt-ltb, le-ltb, eq-eqb, ne_eqb}
use Rattle.codec.proofs.EveryLaws.{both, every_of}
use Rattle.clock.specs.Timestamp.{Less}
use Rattle.clock.specs.Order.{same_at, same_counts, verdict_of, mirror}
use Rattle.clock.specs.declared.Verdict.{Verdict}
use Rattle.clock.specs.declared.Verdict.TheVariants.{Before, After, Same, Unordered}
use Rattle.clock.proofs.OrderLaws.{verdict_mirror, verdict_unordered}
use Rattle.record.specs.declared.Record.{Record}
use Rattle.archive.specs.Archive.{archive_test, records}
use Rattle.events.specs.Events.{event_at}
use Rattle.concurrent.specs.Unordered.{is_unordered_verdict, concurrent, has_concurrent, is_unordered, unordered_count, list_answer, unordered_answer, Lists}
use Rattle.std.specs.Prelude.{Ok, Err}
use Rattle.refusals.specs.declared.Refusal.TheVariants.{Malformed, BufferLength, NoSuchRecord}

-- ---- two events
unordered_verdict : (v : Verdict) → is_unordered_verdict v ≡ true → v ≡ Unordered
unordered_verdict Before h = absurd (true≢false (sym h))
unordered_verdict After h = absurd (true≢false (sym h))
unordered_verdict Same h = absurd (true≢false (sym h))
unordered_verdict Unordered h = refl

mirrored : (v : Verdict) → is_unordered_verdict (mirror v) ≡ is_unordered_verdict v
mirrored Before = refl
mirrored After = refl
mirrored Same = refl
mirrored Unordered = refl

eqb_swap : (m n : ℕ) → eqb m n ≡ eqb n m
eqb_swap m n = go (eqb n m) refl
  where
    go : (t : Bool) → eqb n m ≡ t → eqb m n ≡ t
    go true e = eq-eqb m n (sym (eqb-true n m e))
    go false e = ne_eqb m n (λ (q : m ≡ n). eqb-false n m e (sym q))

-- concurrent both ways
pub concurrent_symmetric : (x y : Record) → concurrent x y ≡ concurrent y x
unfolding concurrent
concurrent_symmetric x y = rw (eqb_swap x.phase y.phase, verdict_mirror y.counts x.counts, mirrored (verdict_of y.counts x.counts))

same_itself : (v : List ℕ) → verdict_of v v ≡ Same
unfolding verdict_of same_counts
same_itself v = rw (every_of 8 (same_at v v) (λ (k : ℕ) (l : k < 8). eq-eqb (get_or v k 0) (get_or v k 0) refl))

-- not with itself
pub concurrent_irreflexive : (x : Record) → concurrent x x ≡ false
unfolding concurrent
concurrent_irreflexive x = rw (same_itself x.counts) (and-false (eqb x.phase x.phase))

-- one phase, and neither timestamp is less than the other or the same
pub concurrent_means : (x y : Record) → length x.counts ≡ 8 → length y.counts ≡ 8
    → (concurrent x y ≡ true) ↔ ((x.phase ≡ y.phase) × (Less x.counts y.counts → ⊥) × (Less y.counts x.counts → ⊥) × (x.counts ≡ y.counts → ⊥))
unfolding concurrent
concurrent_means x y n m =
    let u = verdict_unordered x.counts y.counts (omega arith) (omega arith) in (
      λ (h : concurrent x y ≡ true).
          let b = both (eqb x.phase y.phase) _ h in let d = u.0 (unordered_verdict _ b.1) in (eqb-true _ _ b.0, d.0, d.1, d.2),
      λ (h : (x.phase ≡ y.phase) × (Less x.counts y.counts → ⊥) × (Less y.counts x.counts → ⊥) × (x.counts ≡ y.counts → ⊥)).
          rw (eq-eqb x.phase y.phase h.0, u.1 (h.1, h.2, h.3)),
    )

-- ---- two records of an archive
pub has_is : (a : List ℕ) (x : Record) (k : ℕ) → k < records a → has_concurrent a x k ≡ concurrent x (event_at a k)
unfolding has_concurrent
has_is a x k l = rw (lt-ltb _ _ l)

pub has_below : (a : List ℕ) (x : Record) (k : ℕ) → has_concurrent a x k ≡ true → k < records a
unfolding has_concurrent
has_below a x k h = ltb-true _ _ (both (ltb k (records a)) _ h).0

-- beyond the last record there is none
pub has_beyond : (a : List ℕ) (x : Record) (k : ℕ) → records a ≤ k → has_concurrent a x k ≡ false
unfolding has_concurrent
has_beyond a x k l = rw (le-ltb _ _ l)

pub unordered_is : (a : List ℕ) (r k : ℕ) → k < records a → is_unordered a r k ≡ concurrent (event_at a r) (event_at a k)
unordered_is a r = has_is a (event_at a r)

eight_counts : (a : List ℕ) (k : ℕ) → length (event_at a k).counts ≡ 8
unfolding event_at
eight_counts a k = refl

-- one phase, and neither timestamp is less than the other or the same
pub unordered_means : (a : List ℕ) (r k : ℕ) → k < records a
    → (is_unordered a r k ≡ true)
    ↔ (((event_at a r).phase ≡ (event_at a k).phase) × (Less (event_at a r).counts (event_at a k).counts → ⊥)
    × (Less (event_at a k).counts (event_at a r).counts → ⊥) × ((event_at a r).counts ≡ (event_at a k).counts → ⊥))
unordered_means a r k l = rw (unordered_is a r k l) (concurrent_means (event_at a r) (event_at a k) (eight_counts a r) (eight_counts a k))

pub unordered_symmetric : (a : List ℕ) (r k : ℕ) → r < records a → k < records a → is_unordered a r k ≡ is_unordered a k r
unordered_symmetric a r k l m = unordered_is a r k m ∙ concurrent_symmetric (event_at a r) (event_at a k) ∙ sym (unordered_is a k r l)

pub unordered_irreflexive : (a : List ℕ) (r : ℕ) → is_unordered a r r ≡ false
unfolding has_concurrent
unordered_irreflexive a r = rw (concurrent_irreflexive (event_at a r)) (and-false (ltb r (records a)))

-- ---- the list
-- a record is never in its own list
pub never_itself : (a : List ℕ) (r : ℕ) (l : List ℕ) → Lists a r l → Memᴰ r l → ⊥
never_itself a r l w m = true≢false (sym ((w.members r).0 m) ∙ unordered_irreflexive a r)

-- an answer that counts is of a list that fits
pub count_fits_lem : (a : List ℕ) (r places n : ℕ) → Ok n ≡ unordered_answer a r places → n ≤ places
unfolding unordered_answer list_answer
count_fits_lem a r places n e = go (archive_test a) (ltb r (records a)) (ltb places (unordered_count a r)) refl e
  where
    go : (t u v : Bool) → ltb places (unordered_count a r) ≡ v
        → Ok n ≡ cond t (cond u (cond v (Err BufferLength) (Ok (unordered_count a r))) (Err NoSuchRecord)) (Err Malformed) → n ≤ places
    go false u v h q = absurd (cc)
    go true false v h q = absurd (cc)
    go true true true h q = absurd (cc)
    go true true false h q = let z : n ≡ unordered_count a r = cc in omega (arith, ltb-false places (unordered_count a r) h)
