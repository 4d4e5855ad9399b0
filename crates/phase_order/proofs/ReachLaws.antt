-- Stations reached, from phase to phase. Assumes nothing.
use Prim.Native.Nat.{ℕ, zero, suc, ◌+◌, ◌*◌, ◌-◌, ◌%◌, ◌≤◌, ◌<◌}
use mathlib.Core.Path.{◌≡◌, refl, sym, ap, ◌∙◌}
use mathlib.Core.Logic.{◌⊎◌, inl, inr}
use mathlib.Core.List.{List}
use mathlib.Core.Bool.{Bool, true, false, ◌&&◌, ◌||◌, cond}
use native.Mathlib.Omega.{arith}
use native.Mathlib.Numerals.{add-one}
use lib.Dec.{eqb, leb}
use lib.ListN.{length, get_or}
use borrow.Author.Tests.{lt-ltb, eq-eqb, ne_eqb}
use Rattle.codec.proofs.EveryLaws.{both, join}
use Rattle.record.specs.declared.Record.{Record}
use Rattle.archive.specs.Archive.{records}
use Rattle.events.specs.Events.{event_at}
use Rattle.clock.specs.Timestamp.{zeros}
use Rattle.phase_order.specs.PhaseOrder.{is_of, last_timestamp, reached_first, knows, reached_next, reached, precedes}
use Rattle.phase_order.specs.Passes.{meets, marked, Table, NoneMeets, Reaches}
use Rattle.codec.proofs.SomeLaws.{some_of, some_holds}
use Rattle.phase_order.proofs.PassLaws.{meets-zeros, meets-knows, meets_one, is_of_lem, last_cases}

-- a mark is odd exactly where the timestamp meets what is asked
pub odd_mark : (t : List ℕ) (s : ℕ) (v : List ℕ) → eqb (marked t s v % 2) 1 ≡ meets t v
unfolding marked
odd_mark t s v = go (meets t v)
  where
    go : (b : Bool) → eqb ((get_or v s 0 * 2 + cond b 1 0) % 2) 1 ≡ b
    go true = eq-eqb ((get_or v s 0 * 2 + 1) % 2) 1 (omega arith)
    go false = ne_eqb ((get_or v s 0 * 2 + 0) % 2) 1 (λ (e : (get_or v s 0 * 2 + 0) % 2 ≡ 1). omega arith)

pub even_mark : (t : List ℕ) (s : ℕ) (v : List ℕ) → marked t s v % 2 ≡ 0 → meets t v ≡ false
even_mark t s v h = sym (odd_mark t s v) ∙ ne_eqb (marked t s v % 2) 1 (λ (e : marked t s v % 2 ≡ 1). omega arith)

module _ (a : List ℕ) (x : Record) where
  -- ---- one phase more
  reached_more : (d s : ℕ) → reached a x (d + 1) s ≡ (reached a x d s || knows (reached a x d) (last_timestamp a s (x.phase + 1 + d)))
  unfolding reached reached_next
  reached_more d s = rw add-one

  -- once reached stays
  pub reached-stays : (d m s : ℕ) → reached a x d s ≡ true → reached a x (d + m) s ≡ true
  reached-stays d zero s h = let e : d + 0 ≡ d = omega arith in rw e h
  reached-stays d (suc m) s h =
      let e : d + suc m ≡ d + m + 1 = omega arith in
      rw (e, reached_more (d + m) s, reached-stays d m s h)

  -- so whoever knows one of them knows one later
  pub knows-stays : (d m : ℕ) (v : List ℕ) → knows (reached a x d) v ≡ true → knows (reached a x (d + m)) v ≡ true
  unfolding knows
  knows-stays d m v h =
      let (k, l, e) = some_holds 8 (λ (k : ℕ). reached a x d k && leb 1 (get_or v k 0)) h in
      let b = both (reached a x d k) _ e in
      some_of 8 (λ (k : ℕ). reached a x (d + m) k && leb 1 (get_or v k 0)) k l (join _ _ (reached-stays d m k b.0) b.1)

  -- ---- as eight numbers
  module _ {d : ℕ} {r : List ℕ} (w : Reaches a x d r) where
    pub meets_is : (v : List ℕ) → meets r v ≡ knows (reached a x d) v
    meets_is v = meets-knows r (reached a x d) v w.are

    bit : (b : Bool) (c : ℕ) → c ≡ cond b 1 0 → c ≡ 0 → b ≡ false
    bit true c e z = absurd (omega arith)
    bit false c e z = refl

    unit : (b : Bool) (c : ℕ) → c ≡ cond b 1 0 → (c ≡ 0) ⊎ (b ≡ true)
    unit true c e = inr refl
    unit false c e = inl e

    -- where no station that is not reached meets them, none joins
    pub stays_one : ((s : ℕ) → s < 8 → get_or r s 0 ≡ 0 → meets r (last_timestamp a s (x.phase + 1 + d)) ≡ false) → Reaches a x (d + 1) r
    stays_one h = record { wide = w.wide; are = λ s l. w.are s l ∙ sym (ap (λ (b : Bool). cond b 1 0) (same s l)) }
      where
        same : (s : ℕ) → s < 8 → reached a x (d + 1) s ≡ reached a x d s
        same s l = reached_more d s ∙ go (unit (reached a x d s) (get_or r s 0) (w.are s l))
          where
            go : (get_or r s 0 ≡ 0) ⊎ (reached a x d s ≡ true) → (reached a x d s || knows (reached a x d) (last_timestamp a s (x.phase + 1 + d))) ≡ reached a x d s
            go (inl z) = rw (bit (reached a x d s) (get_or r s 0) (w.are s l) z, ← meets_is (last_timestamp a s (x.phase + 1 + d)), h s l z)
            go (inr e) = rw e

    -- those join whose last timestamp does
    pub joins_one : (q : List ℕ) → length q ≡ 8 → ((s : ℕ) → s < 8 → get_or q s 0 ≡ cond (meets r (last_timestamp a s (x.phase + 1 + d))) 1 (get_or r s 0)) → Reaches a x (d + 1) q
    joins_one q long h = record { wide = long; are = λ s l. h s l ∙ rw (meets_is (last_timestamp a s (x.phase + 1 + d)), w.are s l, reached_more d s) (go (reached a x d s) (knows (reached a x d) (last_timestamp a s (x.phase + 1 + d)))) }
      where
        go : (b c : Bool) → ◌≡◌ {A = ℕ} (cond c 1 (cond b 1 0)) (cond (b || c) 1 0)
        go true true = refl
        go true false = refl
        go false true = refl
        go false false = refl

  -- and in several phases
  pub stays-many : (m : ℕ) {d : ℕ} {r : List ℕ} → Reaches a x d r → ((j s : ℕ) → j < m → s < 8 → get_or r s 0 ≡ 0 → meets r (last_timestamp a s (x.phase + 1 + d + j)) ≡ false) → Reaches a x (d + m) r
  stays-many zero {d} w h = let e : d + 0 ≡ d = omega arith in rw e w
  stays-many (suc m) {d} w h =
      let e : d + suc m ≡ d + m + 1 = omega arith in
      rw e (stays_one (stays-many m w (λ j s l. h j s (omega arith)))
      (λ s l z. let f : x.phase + 1 + (d + m) ≡ x.phase + 1 + d + m = omega arith in rw f (h m s (omega arith) l z)))

  -- ---- phases in which no record of a station that is not reached meets them
  none_joins : {r : List ℕ} {f g : ℕ} → NoneMeets a r f g (records a) → (e s : ℕ) → f ≤ e → e < g → get_or r s 0 ≡ 0 → meets r (last_timestamp a s e) ≡ false
  none_joins {r} {f} {g} h e s l m z = go (last_cases a s e (records a))
    where
      go : (last_timestamp a s e ≡ zeros) ⊎ ((k : ℕ) × (k < records a) × (is_of a s e k ≡ true) × (last_timestamp a s e ≡ (event_at a k).counts)) → meets r (last_timestamp a s e) ≡ false
      go (inl q) = rw q (meets-zeros r)
      go (inr (k, kl, i, q)) =
          let b = is_of_lem a s e k i in
          rw q (h.none k kl (omega (arith, b.1)) (omega (arith, b.1)) (rw b.0 z))

  pub skips : {d : ℕ} {r : List ℕ} {f g : ℕ} (e : ℕ) → Reaches a x d r → x.phase + 1 + d ≡ f → f ≤ g → x.phase + 1 + e ≡ g → NoneMeets a r f g (records a) → Reaches a x e r
  skips {d} {f = f} {g = g} e w p l q h =
      let m : d + (g - f) ≡ e = omega arith in
      rw (← m) (stays-many (g - f) w (λ j s jl sl z. none_joins h (x.phase + 1 + d + j) s (omega arith) (omega arith) z))

  -- ---- phases of a table before the first in which a station joins, and that one
  module _ (f : ℕ) {d : ℕ} {r l : List ℕ} (w : Reaches a x d r) (p : x.phase + 1 + d ≡ f) (t : Table a f r (records a) l) where
    pub table_stays : (q : ℕ) → q * 8 ≤ length l → ((i : ℕ) → i < q * 8 → get_or r (i % 8) 0 ≡ 0 → get_or l i 0 % 2 ≡ 0) → Reaches a x (d + q) r
    table_stays q b h =
        stays-many q w
        (λ j s jl sl z. let m : (j * 8 + s) % 8 ≡ s = omega arith in
        let e : marked r s (last_timestamp a s (f + j)) % 2 ≡ 0 = rw (← t.marks j s sl (omega arith)) (h (j * 8 + s) (omega arith) (rw m z)) in
        rw p (even_mark r s (last_timestamp a s (f + j)) e))

    pub table-joins : (q : ℕ) → q * 8 + 8 ≤ length l → Reaches a x (d + q) r → (v : List ℕ) → length v ≡ 8
        → ((s : ℕ) → s < 8 → get_or v s 0 ≡ cond (eqb (get_or l (q * 8 + s) 0 % 2) 1) 1 (get_or r s 0)) → Reaches a x (d + q + 1) v
    table-joins q b u v long h =
        joins_one u v long
        (λ s sl. let e : x.phase + 1 + (d + q) ≡ f + q = omega arith in
        h s sl ∙ rw (t.marks q s sl (omega arith), odd_mark r s (last_timestamp a s (f + q)), e))

  -- ---- the stations reached in x's own phase
  pub first_reached : (t l v : List ℕ) → x.station < 8 → 1 ≤ get_or x.counts x.station 0
      → ((k : ℕ) → k < 8 → get_or t k 0 ≡ cond (eqb k x.station) (get_or x.counts x.station 0) 0)
      → Table a x.phase t (records a) l → 8 ≤ length l → length v ≡ 8 → ((s : ℕ) → s < 8 → get_or v s 0 ≡ cond (eqb (get_or l (0 * 8 + s) 0 % 2) 1) 1 0) → Reaches a x 0 v
  unfolding reached reached_first
  first_reached t l v sl o asked w b long h = record {
    wide = long;
    are = λ s k.
        let e : x.phase + 0 ≡ x.phase = omega arith in
        h s k ∙ rw (w.marks 0 s k (omega arith), odd_mark t s (last_timestamp a s (x.phase + 0)), e, meets_one t x.station (get_or x.counts x.station 0) (last_timestamp a s x.phase) sl o asked);
  }

  -- ---- the answer
  module _ (y : Record) (later : x.phase < y.phase) where
    precedes_is : precedes a x y ≡ knows (reached a x (y.phase - (x.phase + 1))) y.counts
    unfolding precedes
    precedes_is = rw (lt-ltb x.phase y.phase later)

    -- y knows a station that is reached early
    pub early-yes : {d : ℕ} {r : List ℕ} → Reaches a x d r → x.phase + 1 + d ≤ y.phase → meets r y.counts ≡ true → precedes a x y ≡ true
    early-yes {d} w l m =
        let e : y.phase - (x.phase + 1) ≡ d + (y.phase - (x.phase + 1) - d) = omega arith in
        precedes_is ∙ rw e (knows-stays d (y.phase - (x.phase + 1) - d) y.counts (sym (meets_is w y.counts) ∙ m))

    -- at its own phase it is told
    pub last_told : {d : ℕ} {r : List ℕ} → Reaches a x d r → x.phase + 1 + d ≡ y.phase → meets r y.counts ≡ precedes a x y
    last_told {d} w l =
        let e : y.phase - (x.phase + 1) ≡ d = omega arith in
        sym (precedes_is ∙ rw (e, ← meets_is w y.counts))
