-- Every reader that is made, and every one that opening and moving on leave, answers as the bytes that it was made of say. Assumes nothing.
use Prim.Native.Nat.{ℕ, ◌+◌, ◌-◌, ◌/◌, ◌≤◌, ◌<◌}
use mathlib.Core.Path.{◌≡◌, refl, sym, ◌∙◌}
use mathlib.Core.Logic.{◌≢◌}
use mathlib.Core.List.{List, [], ◌∷◌}
use mathlib.Core.Bool.{Bool, true, false, cond}
use native.Mathlib.Omega.{arith}
use native.Mathlib.Decide.{dec_lt, ℕ_discrete}
use lib.Dec.{eqb, ltb}
use lib.ListN.{length}
use borrow.Author.Tests.{lt-ltb, le-ltb, eq-eqb, ne_eqb}
use Rattle.entries.proofs.Laws.{well_made-count}
use Rattle.archive.specs.Archive.{block_of, blocks, records, record_at, find_record, found_record, archive_test}
use Rattle.archive.proofs.Laws.{test-long, test-blocks, block_parts}
use Rattle.archive.proofs.Tested.{record_well_made, record_length_lem}
use Rattle.reader.specs.Reading.{held, tested_part, no_archive, no_such_record, stays, goes, open_at, standing, opened}
use Rattle.reader.specs.Made.{MadeOf, Call, opens, moves, answer_to, after_calls, as_found, Answers, OnNothing, OnRecord, OnHeader}
use Rattle.reader.specs.declared.Reader.{Reader}
use Rattle.reader.proofs.Laws.{open_nothing}
use Rattle.reader.proofs.Calls.{record_nothing}

-- ---- opening
found_none : (b : List ℕ) (k at : ℕ) → archive_test b ≡ false → as_found b k at ≡ stays at no_archive
unfolding as_found find_record
found_none b k at e = rw e

found_some : (b : List ℕ) (k at : ℕ) → archive_test b ≡ true → as_found b k at ≡ cond (ltb k (records b)) (goes k) (stays at no_such_record)
unfolding as_found find_record
found_some b k at e = rw e (go (ltb k (records b)))
  where
    go : (t : Bool) → cond (eqb (cond t 0 12) 0) (goes k) (stays at (cond t 0 12)) ≡ cond t (goes k) (stays at no_such_record)
    go true = refl
    go false = refl

open_some : (b : List ℕ) (k at : ℕ) → archive_test b ≡ true → open_at b k at ≡ cond (ltb k (records b)) (goes k) (stays at no_such_record)
unfolding open_at
open_some b k at e = let d : length b ≢ 0 = λ (z : length b ≡ 0). omega (arith, test-long b e) in rw (ne_eqb _ 0 d)

open_found : (b : List ℕ) (k at : ℕ) → open_at (tested_part b) k at ≡ as_found b k at
unfolding tested_part
open_found b k at = go (archive_test b) refl
  where
    go : (t : Bool) → archive_test b ≡ t → open_at (cond t b []) k at ≡ as_found b k at
    go true e = open_some b k at e ∙ sym (found_some b k at e)
    go false e = open_nothing [] k at refl ∙ sym (found_none b k at e)

-- ---- a place on which a reader may stand: a record's, or 0
abbrev MayStand : List ℕ → ℕ → Type 0
MayStand b k = find_record b k ≢ 0 → k ≡ 0

found_place : (b : List ℕ) (k at : ℕ) → MayStand b at → MayStand b (as_found b k at).at
unfolding as_found
found_place b k at p = go (ℕ_discrete (find_record b k) 0)
  where
    go : Dec (find_record b k ≡ 0) → MayStand b (as_found b k at).at
    go (yes e) = rw (eq-eqb _ 0 e) (λ (d : find_record b k ≢ 0). absurd (d e))
    go (no d) = rw (ne_eqb _ 0 d) p

-- an archive without a record is a header alone: each of its entries blocks would have one
pub header-alone : (b : List ℕ) → archive_test b ≡ true → records b ≡ 0 → blocks b ≡ 0
unfolding records
header-alone b t e = go (ℕ_discrete (blocks b) 0)
  where
    go : Dec (blocks b ≡ 0) → blocks b ≡ 0
    go (yes z) = z
    go (no d) =
        let w = well_made-count (block_of b (blocks b - 1)) (block_parts b t (blocks b - 1) (omega arith)).0 in
        absurd (omega (arith, rw (ne_eqb _ 0 d) at e))

record_header : (b : List ℕ) (k : ℕ) → archive_test b ≡ true → records b ≡ 0 → record_at b k ≡ []
unfolding record_at
record_header b k t e =
    let h : length b / 512 ≤ k / 15 + 1 = omega (arith, test-blocks b t, header-alone b t e) in
    rw (le-ltb _ _ h)

no_record_lem : (b : List ℕ) (k : ℕ) → archive_test b ≡ true → MayStand b k → records b ≤ k → records b ≡ 0
unfolding find_record
no_record_lem b k t p h = let z : k ≡ 0 = (rw (t, le-ltb _ _ h) at p) (λ (e : 12 ≡ 0). omega arith) in omega arith

record_found_lem : (b : List ℕ) (k : ℕ) → MayStand b k → record_at (tested_part b) k ≡ found_record b k
unfolding tested_part found_record find_record
record_found_lem b k p = go (archive_test b) refl (dec_lt k (records b))
  where
    go : (t : Bool) → archive_test b ≡ t → Dec (k < records b) → record_at (tested_part b) k ≡ found_record b k
    go false e d = rw (e, record_nothing k)
    go true e (yes l) = rw (e, lt-ltb _ _ l)
    go true e (no d) = let h : records b ≤ k = omega arith in rw (e, le-ltb _ _ h) (record_header b k e (no_record_lem b k e p h))

-- ---- the calls, one after the other
record Stands (b : List ℕ) (r : Reader) : Type 0 where
  holds : held r ≡ tested_part b
  place : MayStand b r.at

opened-found : (b : List ℕ) (r : Reader) → Stands b r → (k : ℕ) → opened r k ≡ as_found b k r.at
opened-found b r s k = rw s.holds (open_found b k r.at)

call_stands : (b : List ℕ) (r : Reader) (c : Call) → Stands b r → Stands b (standing r (answer_to r c))
unfolding answer_to
call_stands b r (opens k) s = record { holds = s.holds; place = rw (opened-found b r s k) (found_place b k r.at s.place) }
call_stands b r moves s = record { holds = s.holds; place = rw (opened-found b r s (r.at + 1)) (found_place b (r.at + 1) r.at s.place) }

calls_stand : (b : List ℕ) (cs : List Call) (r : Reader) → Stands b r → Stands b (after_calls r cs)
unfolding after_calls
calls_stand b [] r s = s
calls_stand b (c ∷ cs) r s = calls_stand b cs (standing r (answer_to r c)) (call_stands b r c s)

stands : (b : List ℕ) (r : Reader) → MadeOf b r → (cs : List Call) → Stands b (after_calls r cs)
stands b r m cs = calls_stand b cs r (record { holds = m.holds; place = λ (d : find_record b r.at ≢ 0). m.first })

answers : (b : List ℕ) (r : Reader) → Stands b r → Answers b r
answers b r s =
    record {
      holds = s.holds;
      opening = opened-found b r s;
      moving = opened-found b r s (r.at + 1);
      handing = rw s.holds (record_found_lem b r.at s.place);
    }

-- THE THEOREM: a made reader, and every reader that calls leave, answers as the bytes that it was made of say
pub made-answers : (b : List ℕ) (r : Reader) → MadeOf b r → (cs : List Call) → Answers b (after_calls r cs)
made-answers b r m cs = answers b (after_calls r cs) (stands b r m cs)

-- ---- the three kinds of bytes
-- a reader that every call refuses is left
all_refused : (r : Reader) (n : ℕ) → ((k : ℕ) → opened r k ≡ stays r.at n) → (cs : List Call) → after_calls r cs ≡ r
unfolding after_calls answer_to
all_refused r n h [] = refl
all_refused r n h (opens k ∷ cs) = rw (h k) (all_refused r n h cs)
all_refused r n h (moves ∷ cs) = rw (h (r.at + 1)) (all_refused r n h cs)

-- no archive
pub made_of_no_archive : (b : List ℕ) (r : Reader) → archive_test b ≡ false → MadeOf b r → (cs : List Call) → OnNothing (after_calls r cs)
unfolding tested_part found_record find_record
made_of_no_archive b r e m cs =
    let x = after_calls r cs in
    let a = made-answers b r m cs in
    let o : (k : ℕ) → opened x k ≡ stays x.at no_archive = λ (k : ℕ). a.opening k ∙ found_none b k x.at e in
    record {
      holds = rw e at a.holds;
      opening = o;
      moving = o (x.at + 1);
      handing = rw e at a.handing;
      leaving = all_refused x no_archive o;
    }

-- a header alone
pub made_of_header : (b : List ℕ) (r : Reader) → archive_test b ≡ true → records b ≡ 0 → MadeOf b r → (cs : List Call) → OnHeader b (after_calls r cs)
unfolding tested_part
made_of_header b r e n m cs =
    let x = after_calls r cs in
    let a = made-answers b r m cs in
    let w : held x ≡ b = rw e at a.holds in
    let o : (k : ℕ) → opened x k ≡ stays x.at no_such_record = λ (k : ℕ). let l : records b ≤ k = omega arith in a.opening k ∙ found_some b k x.at e ∙ rw (le-ltb _ _ l) refl in
    record {
      holds = w;
      opening = o;
      moving = o (x.at + 1);
      handing = rw w (record_header b x.at e n);
      leaving = all_refused x no_such_record o;
    }

-- an archive with a record
pub made_of_archive : (b : List ℕ) (r : Reader) → archive_test b ≡ true → 0 < records b → MadeOf b r → (cs : List Call) → OnRecord b (after_calls r cs)
unfolding tested_part
made_of_archive b r e n m cs =
    let x = after_calls r cs in
    let a = made-answers b r m cs in
    let w : held x ≡ b = rw e at a.holds in
    let l : x.at < records b = go x (stands b r m cs).place (dec_lt x.at (records b)) in
    let o : (k : ℕ) → opened x k ≡ cond (ltb k (records b)) (goes k) (stays x.at no_such_record) = λ (k : ℕ). a.opening k ∙ found_some b k x.at e in
    record {
      holds = w;
      there = l;
      opening = o;
      moving = o (x.at + 1);
      handing = a.handing;
      whole = rw w (record_length_lem b e x.at l);
      well_made = rw w (record_well_made b e x.at l);
    }
  where
    go : (x : Reader) → MayStand b x.at → Dec (x.at < records b) → x.at < records b
    go x p (yes l) = l
    go x p (no d) = absurd (omega (arith, no_record_lem b x.at e p (omega arith)))
