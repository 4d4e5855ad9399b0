-- Laws of the collecting step and of all steps. Assumes nothing.
use Prim.Native.Nat.{ℕ, ◌+◌, ◌*◌, ◌/◌, ◌%◌, ◌≤◌, ◌<◌}
use mathlib.Core.Path.{◌≡◌, refl, sym, ap, ◌∙◌}
use mathlib.Core.Logic.{⊎_elim}
use mathlib.Core.List.{List}
use mathlib.Core.Bool.{true, false, ◌&&◌, cond, true≢false}
use native.Mathlib.Omega.{arith}
use native.Mathlib.Numerals.{add-one}
use native.Mathlib.Nat.{eq-or-lt_of_le}
use native.Mathlib.Decide.{ℕ_discrete}
use lib.Dec.{eqb, ltb}
use lib.ListN.{length, get_or, take, drop, length-take, length-drop}
use borrow.Author.Tests.{eq-eqb, ne_eqb, lt-ltb}
use lib.Seq.{drop-drop}
use Rattle.codec.specs.Splice.{splice}
use Rattle.codec.specs.Every.{count_below}
use Rattle.codec.proofs.SomeLaws.{some_same, some_of, some_not}
use Rattle.codec.proofs.CountLaws.{grow, count_same, count-passed, count_failed, count_none}
use Rattle.codec.proofs.SpliceLaws.{splice-length}
use Rattle.entries.specs.Entries.{count_of, stored_number, record_of}
use Rattle.archive.specs.Archive.{block_of, blocks, archive_test, records, record_at}
use Rattle.archive.proofs.Laws.{block_parts}
use Rattle.archive.proofs.Tested.{block-numbers, record_place, records-most}
use Rattle.events.proofs.Laws.{block-length}
use Rattle.fetch.specs.Fetch.{holds, copy_at, copied, Collected, collected, wanted, fetched_below, Collects, EveryStep, holds_named, EveryFetch}
use Rattle.fetch.proofs.PartLaws.{spliced_part, spliced_before, spliced_behind}

-- ---- one number more
module _ (block l d : List ℕ) (n : ℕ) where
  pub copied-held : holds block (get_or l n 0) ≡ true → copied block l d (n + 1) ≡ splice (copied block l d n) (n * 32) (record_of block (get_or l n 0 % 15))
  unfolding copied
  copied-held h = rw (add-one, h)

  pub copied-not : holds block (get_or l n 0) ≡ false → copied block l d (n + 1) ≡ copied block l d n
  unfolding copied
  copied-not h = rw (add-one, h)

  pub copied_more : (after : List ℕ) → after ≡ cond (holds block (get_or l n 0)) (splice (copied block l d n) (n * 32) (record_of block (get_or l n 0 % 15))) (copied block l d n)
      → after ≡ copied block l d (n + 1)
  unfolding copied
  copied_more after e = rw (add-one n) e

pub copied_none : (block l d : List ℕ) → copied block l d 0 ≡ d
unfolding copied
copied_none block l d = refl

-- ---- one step
module _ (block l d : List ℕ) (wide : length block ≡ 512) where
  record_long : (k : ℕ) → length (record_of block (k % 15)) ≡ 32
  unfolding record_of
  record_long k = simp (length-take, length-drop) (omega arith)

  -- what lies behind n places is what lies behind one more
  further : (n : ℕ) (e : List ℕ) → drop (n * 32) e ≡ drop (n * 32) d → drop ((n + 1) * 32) e ≡ drop ((n + 1) * 32) d
  further n e h =
      let m : (n + 1) * 32 ≡ n * 32 + 32 = omega arith in
      rw (m, ← drop-drop 32 (n * 32) e, h, drop-drop 32 (n * 32) d)

  -- the first n places are done, the others are left
  record Done (n : ℕ) (after : List ℕ) : Type 0 where
    long : length after ≡ length d
    has : (i : ℕ) → i < n → holds block (get_or l i 0) ≡ true → copy_at after i ≡ record_of block (get_or l i 0 % 15)
    leaves : (i : ℕ) → i < n → holds block (get_or l i 0) ≡ false → copy_at after i ≡ copy_at d i
    behind : drop (n * 32) after ≡ drop (n * 32) d

  done_none : Done 0 (copied block l d 0)
  done_none = rw copied_none (record { long = refl; has = λ i h. absurd (omega arith); leaves = λ i h. absurd (omega arith); behind = refl })

  done_held : (n : ℕ) → n * 32 + 32 ≤ length d → holds block (get_or l n 0) ≡ true → Done n (copied block l d n) → Done (n + 1) (copied block l d (n + 1))
  unfolding copy_at
  done_held n f h w =
      let v : List ℕ = record_of block (get_or l n 0 % 15) in
      let e : length v ≡ 32 = record_long (get_or l n 0) in
      let m : n * 32 + length v ≤ length (copied block l d n) = omega (arith, w.long) in
      let y : (i : ℕ) → i < n → take 32 (drop (i * 32) (splice (copied block l d n) (n * 32) v)) ≡ take 32 (drop (i * 32) (copied block l d n)) = λ i k. spliced_before (copied block l d n) v (n * 32) m (i * 32) 32 (omega arith) in
      rw (copied-held block l d n h)
      (record {
        long = splice-length (copied block l d n) (n * 32) v m ∙ w.long;
        has = λ i k g. ⊎_elim (λ (z : i ≡ n). rw z (spliced_part (copied block l d n) v (n * 32) m 32 e)) (λ (z : i < n). y i z ∙ w.has i z g) (eq-or-lt_of_le {n = i} {m = n} (omega arith));
        leaves = λ i k g. ⊎_elim (λ (z : i ≡ n). absurd (true≢false (sym h ∙ (ap (λ (j : ℕ). holds block (get_or l j 0)) (sym z) ∙ g)))) (λ (z : i < n). y i z ∙ w.leaves i z g) (eq-or-lt_of_le {n = i} {m = n} (omega arith));
        behind = spliced_behind (copied block l d n) v (n * 32) m ((n + 1) * 32) (omega arith) ∙ further n (copied block l d n) w.behind;
      })

  done-not : (n : ℕ) → holds block (get_or l n 0) ≡ false → Done n (copied block l d n) → Done (n + 1) (copied block l d (n + 1))
  unfolding copy_at
  done-not n h w =
      rw (copied-not block l d n h)
      (record {
        long = w.long;
        has = λ i k g. ⊎_elim (λ (z : i ≡ n). absurd (true≢false (sym g ∙ (ap (λ (j : ℕ). holds block (get_or l j 0)) z ∙ h)))) (λ (z : i < n). w.has i z g) (eq-or-lt_of_le {n = i} {m = n} (omega arith));
        leaves = λ i k g. ⊎_elim (λ (z : i ≡ n). rw z (ap (take 32) w.behind)) (λ (z : i < n). w.leaves i z g) (eq-or-lt_of_le {n = i} {m = n} (omega arith));
        behind = further n (copied block l d n) w.behind;
      })

  done : (n : ℕ) → n * 32 ≤ length d → Done n (copied block l d n)
  done =
      grow (λ (n : ℕ). holds block (get_or l n 0)) (λ (n : ℕ). n * 32 ≤ length d → Done n (copied block l d n)) (λ f. done_none)
      (λ n h g f. done_held n (omega arith) h (g (omega arith))) (λ n h g f. done-not n h (g (omega arith)))

pub copied-long : (block l d : List ℕ) (n : ℕ) → length block ≡ 512 → n * 32 ≤ length d → length (copied block l d n) ≡ length d
copied-long block l d n wide fits = (done block l d wide n fits).long

pub every_step : EveryStep
every_step block l d wide fits =
    let w = done block l d wide (length l) fits in
    record { long = w.long; copies = w.has; leaves = w.leaves; behind = w.behind }

-- ---- one block more
module _ (a l d : List ℕ) (b : ℕ) where
  pub fetched_more : wanted l b ≡ true → fetched_below a l d (b + 1) ≡ collected (block_of a b) l (fetched_below a l d b)
  unfolding fetched_below
  fetched_more w = rw (add-one b, w)

  pub fetched-not : wanted l b ≡ false → fetched_below a l d (b + 1) ≡ fetched_below a l d b
  unfolding fetched_below
  fetched-not w = rw (add-one, w)

pub fetched_none : (a l d : List ℕ) → fetched_below a l d 0 ≡ record { count = 0; copies = d }
unfolding fetched_below
fetched_none a l d = refl

-- blocks that are not wanted are passed over
pub fetched-skips : (a l d : List ℕ) (b c : ℕ) → b ≤ c → ((k : ℕ) → b ≤ k → k < c → wanted l k ≡ false) → fetched_below a l d c ≡ fetched_below a l d b
fetched-skips a l d b =
    grow (wanted l) (λ (c : ℕ). b ≤ c → ((k : ℕ) → b ≤ k → k < c → wanted l k ≡ false) → fetched_below a l d c ≡ fetched_below a l d b) (λ h n. let e : b ≡ 0 = omega arith in rw e)
    (λ c w g h n. ⊎_elim (λ (e : b ≡ c + 1). rw e) (λ (k : b < c + 1). absurd (true≢false (sym w ∙ n c (omega arith) (omega arith)))) (eq-or-lt_of_le {n = b} {m = c + 1} h))
    (λ c w g h n. ⊎_elim (λ (e : b ≡ c + 1). rw e) (λ (k : b < c + 1). fetched-not a l d c w ∙ g (omega arith) (λ j x y. n j x (omega arith))) (eq-or-lt_of_le {n = b} {m = c + 1} h))

-- ---- all steps
-- the block of a wanted record is wanted
pub wanted_of : (l : List ℕ) (i b : ℕ) → i < length l → get_or l i 0 / 15 ≡ b → wanted l b ≡ true
unfolding wanted
wanted_of l i b h e = some_of (length l) (λ (i : ℕ). eqb (get_or l i 0 / 15) b) i h (eq-eqb _ _ e)

pub not-wanted : (l : List ℕ) (b : ℕ) → ((i : ℕ) → i < length l → get_or l i 0 / 15 ≡ b → ⊥) → wanted l b ≡ false
unfolding wanted
not-wanted l b n = some_not (length l) (λ (i : ℕ). eqb (get_or l i 0 / 15) b) (λ i h. ne_eqb _ _ (n i h))

module _ (a : List ℕ) (tested : archive_test a ≡ true) where
  -- a block of the archive holds the records that its place in the archive gives it
  holds_where : (b k : ℕ) → b < blocks a → k < records a → holds (block_of a b) k ≡ eqb (k / 15) b
  unfolding holds
  holds_where b k h m = go (ℕ_discrete (k / 15) b)
    where
      stored : stored_number (block_of a b) ≡ b + 1
      stored = (block_parts a tested b h).1

      go : Dec (k / 15 ≡ b) → (eqb (stored_number (block_of a b)) (k / 15 + 1) && ltb (k % 15) (count_of (block_of a b))) ≡ eqb (k / 15) b
      go (yes e) =
          let n : k % 15 < count_of (block_of a b) = omega (arith, (block-numbers a tested b h).1) in
          rw (eq-eqb (stored_number (block_of a b)) (k / 15 + 1) (omega (arith, stored)), lt-ltb _ _ n, eq-eqb (k / 15) b e)
      go (no d) = rw (ne_eqb (stored_number (block_of a b)) (k / 15 + 1) (λ e. d (omega (arith, stored))), ne_eqb (k / 15) b d)

  module _ (l d : List ℕ) (known : (i : ℕ) → i < length l → get_or l i 0 < records a) (room : length l * 32 ≤ length d) where
    -- behind the first b blocks: every number of a record there has its copy
    record Has (b : ℕ) (c : Collected) : Type 0 where
      long : length c.copies ≡ length d
      counts : c.count ≡ count_below b (wanted l)
      has : (i : ℕ) → i < length l → get_or l i 0 / 15 < b → copy_at c.copies i ≡ record_at a (get_or l i 0)

    has_none : Has 0 (fetched_below a l d 0)
    has_none = rw fetched_none (record { long = refl; counts = sym (count_none (wanted l)); has = λ i h k. absurd (omega arith) })

    has_more : (b : ℕ) → b < blocks a → wanted l b ≡ true → Has b (fetched_below a l d b) → Has (b + 1) (fetched_below a l d (b + 1))
    has_more b h w g =
        let c : List ℕ = (fetched_below a l d b).copies in
        let s : Collects (block_of a b) l c (copied (block_of a b) l c (length l)) = every_step (block_of a b) l c (block-length a b h) (omega (arith, g.long)) in
        rw (fetched_more a l d b w)
        (record { long = s.long ∙ g.long; counts = rw (count-passed (wanted l) b w) (ap (λ (n : ℕ). n + 1) g.counts); has = λ i k e. at s i k e (ℕ_discrete (get_or l i 0 / 15) b) })
      where
        at : (s : Collects (block_of a b) l (fetched_below a l d b).copies (copied (block_of a b) l (fetched_below a l d b).copies (length l)))
            → (i : ℕ) → i < length l → get_or l i 0 / 15 < b + 1 → Dec (get_or l i 0 / 15 ≡ b) → copy_at (copied (block_of a b) l (fetched_below a l d b).copies (length l)) i ≡ record_at a (get_or l i 0)
        at s i k e (yes z) = s.copies i k (holds_where b (get_or l i 0) h (known i k) ∙ eq-eqb _ _ z) ∙ (rw (← z) (sym (record_place a tested (get_or l i 0) (known i k))))
        at s i k e (no z) = s.leaves i k (holds_where b (get_or l i 0) h (known i k) ∙ ne_eqb _ _ z) ∙ g.has i k (omega (arith, z))

    has_not : (b : ℕ) → wanted l b ≡ false → Has b (fetched_below a l d b) → Has (b + 1) (fetched_below a l d (b + 1))
    has_not b w g =
        rw (fetched-not a l d b w)
        (record { long = g.long; counts = rw (count_failed (wanted l) b w) g.counts; has = λ i k e. g.has i k (below i k e) })
      where
        below : (i : ℕ) → i < length l → get_or l i 0 / 15 < b + 1 → get_or l i 0 / 15 < b
        below i k e = let n : get_or l i 0 / 15 ≡ b → ⊥ = λ z. true≢false (sym (wanted_of l i b k z) ∙ w) in omega (arith, n)

    has_all : (b : ℕ) → b ≤ blocks a → Has b (fetched_below a l d b)
    has_all =
        grow (wanted l) (λ (b : ℕ). b ≤ blocks a → Has b (fetched_below a l d b)) (λ h. has_none)
        (λ b w g h. has_more b (omega arith) w (g (omega arith))) (λ b w g h. has_not b w (g (omega arith)))

    -- a block is wanted exactly where it holds a named record
    wanted_is : (b : ℕ) → b < blocks a → wanted l b ≡ holds_named a l b
    unfolding wanted holds_named
    wanted_is b h = some_same (length l) _ _ (λ i k. sym (holds_where b (get_or l i 0) h (known i k)))

pub every_fetch : EveryFetch
every_fetch a l d tested known room =
    let g = has_all a tested l d known room (blocks a) (omega arith) in
    record {
      distinct = g.counts ∙ count_same (blocks a) (wanted l) (holds_named a l) (wanted_is a tested l d known room);
      copies = λ i k. g.has i k (omega (arith, known i k, records-most a tested));
    }
