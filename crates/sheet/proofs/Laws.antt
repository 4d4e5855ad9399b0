-- Laws of sheets: the verdicts one by one, the copies that they are taken from, and what is claimed of a sheet that is answered. Assumes nothing.
use Prim.Native.Nat.{ℕ, ◌+◌, ◌*◌, ◌%◌, ◌≤◌, ◌<◌}
use mathlib.Core.Path.{◌≡◌, refl, sym, ap, ◌∙◌}
use mathlib.Core.List.{List, [], ◌∷◌, ◌++◌}
use mathlib.Core.Bool.{Bool, true, false, cond}
use native.Mathlib.Omega.{arith}
use native.Mathlib.Numerals.{add-one}
use lib.Dec.{eqb, ltb}
use lib.ListN.{length, get_or, drop, get_or-append}
use borrow.Author.Tests.{ltb-true, ltb-false, eqb-true}
use Rattle.codec.specs.Every.{count_below, blank}
use Rattle.codec.specs.Rows.{upto}
use Rattle.codec.proofs.EveryLaws.{both, every_at}
use Rattle.codec.proofs.BlankLaws.{blank-length}
use Rattle.codec.proofs.SpliceLaws.{drop_past}
use Rattle.codec.proofs.Stride.{upto-length, upto_at, upto_none}
use Rattle.clock.specs.declared.Verdict.{Verdict}
use Rattle.record.specs.Record.{parse_record}
use Rattle.archive.specs.Archive.{archive_test, blocks, records}
use Rattle.std.specs.Prelude.{Ok, Err}
use Rattle.clock.specs.Numbers.{order_number}
use Rattle.refusals.specs.declared.Refusal.TheVariants.{Malformed, BufferLength, NoSuchRecord, IllKept, SheetTooLong}
use Rattle.events.specs.Events.{event_at, station_at, own_at}
use Rattle.events.proofs.Laws.{station-small, own_some}
use Rattle.well_kept.specs.WellKept.{well_kept}
use Rattle.phase_order.specs.PhaseOrder.{verdict_between}
use Rattle.phase_order.specs.ByNumber.{order_of}
use Rattle.phase_order.proofs.Laws.{order_is}
use Rattle.fetch.specs.Fetch.{holds_named, Fetches}
use Rattle.fetch.proofs.Laws.{every_fetch}
use Rattle.sheet.specs.Sheet.{pairs, all_named, gathered, event_of, pair_verdict, pair_verdicts, pairs_answer, sheet_answer, sheet_after, EverySheet}
use Rattle.sheet.specs.Copies.{Sound}

-- ---- the verdicts, one by one
pub verdicts_none : (a d : List ℕ) → pair_verdicts a d 0 ≡ []
unfolding pair_verdicts
verdicts_none a d = upto_none (λ (i : ℕ). order_number (pair_verdict a d i))

pub verdicts_more : (a d : List ℕ) (n : ℕ) → pair_verdicts a d (n + 1) ≡ pair_verdicts a d n ++ (order_number (pair_verdict a d n) ∷ [])
unfolding pair_verdicts upto
verdicts_more a d n = rw add-one

pub verdicts-length : (a d : List ℕ) (n : ℕ) → length (pair_verdicts a d n) ≡ n
unfolding pair_verdicts
verdicts-length a d n = upto-length n (λ (i : ℕ). order_number (pair_verdict a d i))

pub verdicts_at : (a d : List ℕ) (n i : ℕ) → i < n → get_or (pair_verdicts a d n) i 0 ≡ order_number (pair_verdict a d i)
unfolding pair_verdicts
verdicts_at a d n i h = upto_at n (λ (k : ℕ). order_number (pair_verdict a d k)) i 0 h

-- ---- named records
pub named_parts : (a l : List ℕ) → all_named a l ≡ true → (length l % 2 ≡ 0) × ((i : ℕ) → i < length l → get_or l i 0 < records a)
unfolding all_named
named_parts a l h =
    let b = both (eqb (length l % 2) 0) _ h in
    (eqb-true (length l % 2) 0 b.0, λ i k. ltb-true (get_or l i 0) (records a) (every_at (length l) (λ (j : ℕ). ltb (get_or l j 0) (records a)) i b.1 k))

-- ---- the copies
module _ (a l : List ℕ) (tested : archive_test a ≡ true) (named : all_named a l ≡ true) (few : length l ≤ 128) where
  pub known : (i : ℕ) → i < length l → get_or l i 0 < records a
  known = (named_parts a l named).1

  pub all_fetched : Fetches a l (blank 4096)
  all_fetched = every_fetch a l (blank 4096) tested known (omega (arith, blank-length 4096))

  -- a copy stands for the event of its number
  pub copy_event : (i : ℕ) → i < length l → event_of (gathered a l).copies i ≡ event_at a (get_or l i 0)
  unfolding gathered event_of event_at
  copy_event i h = ap parse_record (all_fetched.copies i h)

  pub copies-sound : 4096 ≤ length (gathered a l).copies → (n : ℕ) → n ≤ length l → Sound (gathered a l).copies n
  unfolding station_at own_at
  copies-sound long n h = record {
    long = omega arith;
    station = λ i k. let m : i < length l = omega arith in rw (copy_event i m) (station-small a tested (get_or l i 0) (known i m));
    own = λ i k. let m : i < length l = omega arith in rw (copy_event i m) (own_some a tested (get_or l i 0) (known i m));
  }

-- ---- what is claimed of a sheet that is answered
-- an answer that is a count comes only where nothing is refused
pub record Accepted (a l before : List ℕ) (n : ℕ) : Type 0 where
  pub few : length l ≤ 128
  pub tested : archive_test a ≡ true
  pub named : all_named a l ≡ true
  pub kept : well_kept a ≡ true
  pub room : pairs l ≤ length before
  pub count : n ≡ (gathered a l).count

pub accepted : (a l before : List ℕ) (n : ℕ) → sheet_answer a l (length before) ≡ Ok n → Accepted a l before n
unfolding sheet_answer pairs_answer
accepted a l before n e = go (ltb 128 (length l)) (archive_test a) (all_named a l) (well_kept a) (ltb (length before) (pairs l)) refl refl refl refl refl e
  where
    go : (v w x y z : Bool) → ltb 128 (length l) ≡ v → archive_test a ≡ w → all_named a l ≡ x → well_kept a ≡ y → ltb (length before) (pairs l) ≡ z
        → cond v (Err SheetTooLong) (cond w (cond x (cond y (cond z (Err BufferLength) (Ok (gathered a l).count)) (Err IllKept)) (Err NoSuchRecord)) (Err Malformed)) ≡ Ok n → Accepted a l before n
    go true w x y z f g h i j k = cc
    go false false x y z f g h i j k = cc
    go false true false y z f g h i j k = cc
    go false true true false z f g h i j k = cc
    go false true true true true f g h i j k = cc
    go false true true true false f g h i j k =
        record { few = ltb-false 128 (length l) f; tested = g; named = h; kept = i; room = ltb-false (length before) (pairs l) j; count = cc }

module _ (a l before : List ℕ) (n : ℕ) (w : Accepted a l before n) where
  fetched_blocks : (gathered a l).count ≡ count_below (blocks a) (holds_named a l)
  unfolding gathered
  fetched_blocks = (all_fetched a l w.tested w.named w.few).distinct

  verdict_told : (i : ℕ) → i < pairs l
      → (v : Verdict) × (order_of a (get_or l (i * 2) 0) (get_or l (i * 2 + 1) 0) ≡ Ok v) × (get_or (sheet_after a l before (Ok n)) i 0 ≡ order_number v)
  unfolding pair_verdict
  verdict_told i h =
      let d = (gathered a l).copies in
      let x : i * 2 < length l = omega arith in
      let y : i * 2 + 1 < length l = omega arith in
      let s = known a l w.tested w.named w.few in
      let o : pair_verdict a d i ≡ verdict_between a (event_at a (get_or l (i * 2) 0)) (event_at a (get_or l (i * 2 + 1) 0))
      = rw (copy_event a l w.tested w.named w.few (i * 2) x, copy_event a l w.tested w.named w.few (i * 2 + 1) y)
      in (
        pair_verdict a d i,
        order_is a (get_or l (i * 2) 0) (get_or l (i * 2 + 1) 0) w.tested (s (i * 2) x) (s (i * 2 + 1) y) w.kept ∙ ap Ok (sym o),
        get_or-append (pair_verdicts a d (pairs l)) (drop (pairs l) before) 0 i (omega (arith, verdicts-length a d (pairs l))) ∙ verdicts_at a d (pairs l) i h,
      )

pub every_sheet : EverySheet
every_sheet a l before n e =
    let w = accepted a l before n e in
    let d = (gathered a l).copies in
    let z : pairs l + 0 ≡ pairs l = omega arith in
    record {
      distinct = w.count ∙ fetched_blocks a l before n w;
      verdicts = verdict_told a l before n w;
      behind = rw z at (drop_past (pair_verdicts a d (pairs l)) (drop (pairs l) before) (pairs l) 0 (verdicts-length a d (pairs l)));
    }
