-- What is asked of timestamps, and tables of the marks of last timestamps. Assumes nothing.
use Prim.Native.Nat.{ℕ, zero, suc, ◌+◌, ◌*◌, ◌-◌, ◌/◌, ◌≤◌, ◌<◌}
use mathlib.Core.Path.{◌≡◌, refl, sym, ap, ◌∙◌}
use mathlib.Core.Logic.{◌⊎◌, inl, inr}
use mathlib.Core.List.{List}
use mathlib.Core.Bool.{Bool, true, false, ◌&&◌, cond, and-false}
use native.Mathlib.Omega.{arith}
use native.Mathlib.Numerals.{add-one}
use native.Mathlib.Decide.{ℕ_discrete, dec_lt}
use lib.Dec.{eqb, leb, ltb}
use lib.ListN.{length, get_or, set, get_or-replicate, length-set, get_or-eq_default, length-replicate}
use lib.Seq.{get_or-set_same, get_or-set_other}
use borrow.Author.Tests.{lt-ltb, le-ltb, lt-leb, eqb-true, eq-eqb, ne_eqb}
use Rattle.codec.proofs.EveryLaws.{both, bool_iff}
use Rattle.clock.specs.Timestamp.{zeros}
use Rattle.events.specs.Events.{event_at, station_at, own_at}
use Rattle.phase_order.specs.PhaseOrder.{is_of, last_among, knows}
use Rattle.phase_order.specs.Passes.{meets, marked, Table}
use Rattle.codec.proofs.SomeLaws.{some_same, some_not, some_of, some_holds}

-- ---- what is asked
zeros_at : (k : ℕ) → get_or zeros k 0 ≡ 0
unfolding zeros
zeros_at k = go (dec_lt k 8)
  where
    go : Dec (k < 8) → get_or zeros k 0 ≡ 0
    go (yes l) = get_or-replicate 8 k 0 0 l
    go (no l) = get_or-eq_default zeros 0 {n = k} (omega (arith, l, length-replicate {A = ℕ} 8 0))

-- zeros meet nothing
pub meets-zeros : (t : List ℕ) → meets t zeros ≡ false
unfolding meets
meets-zeros t = some_not 8 _ (λ k l. each k (dec_lt 0 (get_or t k 0)))
  where
    each : (k : ℕ) → Dec (0 < get_or t k 0) → (ltb 0 (get_or t k 0) && leb (get_or t k 0) (get_or zeros k 0)) ≡ false
    each k (yes h) = rw (zeros_at k, lt-leb (get_or t k 0) 0 h) (and-false (ltb 0 (get_or t k 0)))
    each k (no h) = rw (le-ltb 0 (get_or t k 0) (omega (arith, h)))

-- 1 asked for each station of a set: the timestamp knows one of them
pub meets-knows : (t : List ℕ) (r : ℕ → Bool) (v : List ℕ) → ((k : ℕ) → k < 8 → get_or t k 0 ≡ cond (r k) 1 0) → meets t v ≡ knows r v
unfolding meets knows
meets-knows t r v h = some_same 8 _ _ (λ k l. rw (h k l) (each (r k) (get_or v k 0)))
  where
    each : (b : Bool) (c : ℕ) → (ltb 0 (cond b 1 0) && leb (cond b 1 0) c) ≡ (b && leb 1 c)
    each true c = refl
    each false c = refl

-- a count asked for one station alone
pub meets_one : (t : List ℕ) (s c : ℕ) (v : List ℕ) → s < 8 → 1 ≤ c → ((k : ℕ) → k < 8 → get_or t k 0 ≡ cond (eqb k s) c 0) → meets t v ≡ leb c (get_or v s 0)
unfolding meets
meets_one t s c v l h a =
    bool_iff _ _
    (λ m. let (k, kl, e) = some_holds 8 (λ (k : ℕ). ltb 0 (get_or t k 0) && leb (get_or t k 0) (get_or v k 0)) m in there k kl e (ℕ_discrete k s))
    (λ m. some_of 8 (λ (k : ℕ). ltb 0 (get_or t k 0) && leb (get_or t k 0) (get_or v k 0)) s l (rw (a s l, eq-eqb s s refl, lt-ltb 0 c h) m))
  where
    there : (k : ℕ) → k < 8 → (ltb 0 (get_or t k 0) && leb (get_or t k 0) (get_or v k 0)) ≡ true → Dec (k ≡ s) → leb c (get_or v s 0) ≡ true
    there k kl e (yes q) = rw (a k kl, q, eq-eqb s s refl, lt-ltb 0 c h) at e
    there k kl e (no q) = let z : false ≡ true = rw (a k kl, ne_eqb k s q) at e in let y : ◌≡◌ {A = ℕ} 0 1 = cc in absurd (omega arith)

-- ---- last timestamps
module _ (a : List ℕ) where
  -- record n is of station s in phase f
  of_is : (s f n : ℕ) → station_at a n ≡ s → (event_at a n).phase ≡ f → is_of a s f n ≡ true
  unfolding is_of
  of_is s f n p q = rw (eq-eqb (station_at a n) s p, eq-eqb (event_at a n).phase f q)

  of_other : (s f n : ℕ) → ((station_at a n ≡ s) × ((event_at a n).phase ≡ f) → ⊥) → is_of a s f n ≡ false
  unfolding is_of
  of_other s f n d = go (eqb (station_at a n) s) refl (eqb (event_at a n).phase f) refl
    where
      go : (t : Bool) → eqb (station_at a n) s ≡ t → (u : Bool) → eqb (event_at a n).phase f ≡ u → (t && u) ≡ false
      go true e true g = absurd (d (eqb-true _ _ e, eqb-true _ _ g))
      go true e false g = refl
      go false e u g = refl

  pub is_of_lem : (s f n : ℕ) → is_of a s f n ≡ true → (station_at a n ≡ s) × ((event_at a n).phase ≡ f)
  unfolding is_of
  is_of_lem s f n h = let b = both (eqb (station_at a n) s) _ h in (eqb-true _ _ b.0, eqb-true _ _ b.1)

  -- one record more: of another station or phase, with no greater own count, or the last
  last_other : (s f n : ℕ) → is_of a s f n ≡ false → last_among a s f (n + 1) ≡ last_among a s f n
  unfolding last_among
  last_other s f n e = rw (add-one, e)

  last_under : (s f n : ℕ) → own_at a n ≤ get_or (last_among a s f n) s 0 → last_among a s f (n + 1) ≡ last_among a s f n
  unfolding last_among
  last_under s f n h = rw (add-one, le-ltb (get_or (last_among a s f n) s 0) (own_at a n) h, and-false (is_of a s f n))

  last_above : (s f n : ℕ) → is_of a s f n ≡ true → get_or (last_among a s f n) s 0 < own_at a n → last_among a s f (n + 1) ≡ (event_at a n).counts
  unfolding last_among
  last_above s f n e h = rw (add-one, e, lt-ltb (get_or (last_among a s f n) s 0) (own_at a n) h)

  -- it is zeros, or the timestamp of one of them
  pub last_cases : (s f n : ℕ) → (last_among a s f n ≡ zeros) ⊎ ((k : ℕ) × (k < n) × (is_of a s f k ≡ true) × (last_among a s f n ≡ (event_at a k).counts))
  unfolding last_among
  last_cases s f zero = inl refl
  last_cases s f (suc n) = go (is_of a s f n) refl (ltb (get_or (last_among a s f n) s 0) (own_at a n)) (last_cases s f n)
    where
      go : (t : Bool) → is_of a s f n ≡ t → (u : Bool) → (last_among a s f n ≡ zeros) ⊎ ((k : ℕ) × (k < n) × (is_of a s f k ≡ true) × (last_among a s f n ≡ (event_at a k).counts))
          → (cond (t && u) (event_at a n).counts (last_among a s f n) ≡ zeros) ⊎ ((k : ℕ) × (k < suc n) × (is_of a s f k ≡ true) × (cond (t && u) (event_at a n).counts (last_among a s f n) ≡ (event_at a k).counts))
      go true e true r = inr (n, omega arith, e, refl)
      go true e false (inl z) = inl z
      go true e false (inr (k, l, i, q)) = inr (k, omega arith, i, q)
      go false e u (inl z) = inl z
      go false e u (inr (k, l, i, q)) = inr (k, omega arith, i, q)

  -- ---- tables
  -- none yet
  pub table_none : (f : ℕ) (t l : List ℕ) → ((i : ℕ) → get_or l i 0 ≡ 0) → Table a f t 0 l
  unfolding marked last_among
  table_none f t l z = record { marks = λ q s h k. z (q * 8 + s) ∙ sym (rw (zeros_at s, meets-zeros t) refl) }

  module _ (f : ℕ) (t : List ℕ) {n : ℕ} {l : List ℕ} (w : Table a f t n l) (small : station_at a n < 8) where
    -- a record that changes no last timestamp of the table
    pub table_same : ((q s : ℕ) → s < 8 → q * 8 + s < length l → last_among a s (f + q) (n + 1) ≡ last_among a s (f + q) n) → Table a f t (n + 1) l
    table_same h = record { marks = λ q s k m. w.marks q s k m ∙ sym (ap (marked t s) (h q s k m)) }

    -- of an earlier phase, or of one behind the table
    pub table-out : ((q : ℕ) → q * 8 + station_at a n < length l → (event_at a n).phase ≡ f + q → ⊥) → Table a f t (n + 1) l
    table-out d = table_same (λ q s k m. last_other s (f + q) n (of_other s (f + q) n (λ e. d q (rw e.0 m) e.1)))

    module _ (i : ℕ) (p : f ≤ (event_at a n).phase) (at : i ≡ ((event_at a n).phase - f) * 8 + station_at a n) (inside : i < length l) where
      -- with no greater own count
      pub table-under : own_at a n ≤ get_or l i 0 / 2 → Table a f t (n + 1) l
      unfolding marked
      table-under u = table_same go
        where
          go : (q s : ℕ) → s < 8 → q * 8 + s < length l → last_among a s (f + q) (n + 1) ≡ last_among a s (f + q) n
          go q s k m = each (ℕ_discrete (station_at a n) s) (ℕ_discrete (event_at a n).phase (f + q))
            where
              flag : (b : Bool) → cond b 1 0 ≤ 1
              flag true = omega arith
              flag false = omega arith

              each : Dec (station_at a n ≡ s) → Dec ((event_at a n).phase ≡ f + q) → last_among a s (f + q) (n + 1) ≡ last_among a s (f + q) n
              each (yes e) (yes g) =
                  let j : q * 8 + s ≡ i = omega arith in
                  last_under s (f + q) n (omega (arith, rw j at (w.marks q s k m), flag (meets t (last_among a s (f + q) n))))
              each (no e) d = last_other s (f + q) n (of_other s (f + q) n (λ z. e z.0))
              each (yes e) (no g) = last_other s (f + q) n (of_other s (f + q) n (λ z. g z.1))

      -- the last so far
      pub table_more : (x : ℕ) → get_or l i 0 / 2 < own_at a n → x ≡ marked t (station_at a n) (event_at a n).counts → Table a f t (n + 1) (set l i x)
      unfolding marked
      table_more x u is = record { marks = at_place }
        where
          flag : (b : Bool) → cond b 1 0 ≤ 1
          flag true = omega arith
          flag false = omega arith

          at_place : (q s : ℕ) → s < 8 → q * 8 + s < length (set l i x) → get_or (set l i x) (q * 8 + s) 0 ≡ marked t s (last_among a s (f + q) (n + 1))
          at_place q s k m = each (ℕ_discrete (station_at a n) s) (ℕ_discrete (event_at a n).phase (f + q))
            where
              m' : q * 8 + s < length l
              m' = rw (length-set l i x) at m

              other : (q * 8 + s ≡ i → ⊥) → is_of a s (f + q) n ≡ false → get_or (set l i x) (q * 8 + s) 0 ≡ marked t s (last_among a s (f + q) (n + 1))
              other d e = get_or-set_other l i (q * 8 + s) x 0 d ∙ (w.marks q s k m' ∙ sym (ap (marked t s) (last_other s (f + q) n e)))

              each : Dec (station_at a n ≡ s) → Dec ((event_at a n).phase ≡ f + q) → get_or (set l i x) (q * 8 + s) 0 ≡ marked t s (last_among a s (f + q) (n + 1))
              each (yes e) (yes g) =
                  let j : q * 8 + s ≡ i = omega arith in
                  let o : get_or (last_among a s (f + q) n) s 0 < own_at a n = omega (arith, rw j at (w.marks q s k m'), flag (meets t (last_among a s (f + q) n))) in
                  ap (λ (z : ℕ). get_or (set l i x) z 0) j
                  ∙ (get_or-set_same l i x 0 inside ∙ (is ∙ (ap (λ (z : ℕ). marked t z (event_at a n).counts) e ∙ sym (ap (marked t s) (last_above s (f + q) n (of_is s (f + q) n e g) o)))))
              each (no e) d = other (λ z. e (omega arith)) (of_other s (f + q) n (λ z. e z.0))
              each (yes e) (no g) = other (λ z. g (omega arith)) (of_other s (f + q) n (λ z. g z.1))
