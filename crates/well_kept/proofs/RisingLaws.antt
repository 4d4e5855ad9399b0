-- Records that come key by key at each station are well kept. Assumes nothing.
use Prim.Native.Nat.{ℕ, ◌+◌, ◌-◌, ◌/◌, ◌%◌, ◌≤◌, ◌<◌}
use mathlib.Core.Path.{◌≡◌, refl, sym, ap, ◌∙◌}
use mathlib.Core.Logic.{◌⊎◌, inl, inr}
use mathlib.Core.List.{List, [], ◌∷◌}
use mathlib.Core.Bool.{true}
use native.Mathlib.Omega.{arith}
use native.Mathlib.Decide.{ℕ_discrete}
use lib.ListN.{length, get_or, set, length-set, get_or-replicate}
use lib.Seq.{get_or-set_same, get_or-set_other}
use borrow.Author.Tests.{eqb-true, eq-eqb}
use Rattle.codec.specs.Num.{AreBytes}
use Rattle.codec.proofs.CountLaws.{count_has, count_single}
use Rattle.archive.specs.Archive.{archive_test, records}
use Rattle.well_kept.specs.WellKept.{well_kept}
use Rattle.well_kept.specs.Keys.{key_at, has_key, times, follows}
use Rattle.well_kept.specs.Windows.{Rising}
use Rattle.well_kept.proofs.KeyLaws.{follows_is, key-found, stands_kept}

module _ (a : List ℕ) where
  pub rising_none : Rising a 0 (0 ∷ 0 ∷ 0 ∷ 0 ∷ 0 ∷ 0 ∷ 0 ∷ 0 ∷ [])
  rising_none = record {
    wide = refl;
    under = λ i l. absurd (omega arith);
    met = λ s l. inl (get_or-replicate 8 s 0 0 l);
    once = λ i j l m. absurd (omega arith);
    next = λ i l. absurd (omega arith);
  }

  -- one record more
  module _ {n : ℕ} {last : List ℕ} (w : Rising a n last) (s key : ℕ) (is : key ≡ key_at a n) (of : s ≡ key / 65536 % 8)
      (on : follows (get_or last s 0) key ≡ true) where
    small : s < length last
    small = omega (arith, w.wide)

    beyond : get_or last s 0 < key
    beyond = (follows_is (get_or last s 0) key on).0

    at_same : get_or (set last s key) s 0 ≡ key
    at_same = get_or-set_same last s key 0 small

    at_other : (t : ℕ) → (t ≡ s → ⊥) → get_or (set last s key) t 0 ≡ get_or last t 0
    at_other t d = get_or-set_other last s t key 0 d

    pub rising_more : Rising a (n + 1) (set last s key)
    rising_more = record {
      wide = length-set last s key ∙ w.wide;
      under = λ i l. under i l (ℕ_discrete i n) (ℕ_discrete (key_at a i / 65536 % 8) s);
      met = λ t l. met t l (ℕ_discrete t s);
      once = λ i j l m. once i j l m (ℕ_discrete j n);
      next = λ i l. next i l (ℕ_discrete i n);
    }
      where
        under : (i : ℕ) → i < n + 1 → Dec (i ≡ n) → Dec (key_at a i / 65536 % 8 ≡ s) → key_at a i ≤ get_or (set last s key) (key_at a i / 65536 % 8) 0
        under i l (yes e) d = let q : key_at a i / 65536 % 8 ≡ s = rw (e, ← is) (sym of) in rw (q, at_same, e, ← is) (omega arith)
        under i l (no e) (yes d) = rw (d, at_same) (omega (arith, rw d at (w.under i (omega (arith, e))), beyond))
        under i l (no e) (no d) = rw (at_other (key_at a i / 65536 % 8) d) (w.under i (omega (arith, e)))

        met : (t : ℕ) → t < 8 → Dec (t ≡ s) → (get_or (set last s key) t 0 ≡ 0) ⊎ ((i : ℕ) × (i < n + 1) × (key_at a i ≡ get_or (set last s key) t 0))
        met t l (yes e) = inr (n, omega arith, sym is ∙ sym (rw e at_same))
        met t l (no e) = rw (at_other t e) (go (w.met t l))
          where
            go : (get_or last t 0 ≡ 0) ⊎ ((i : ℕ) × (i < n) × (key_at a i ≡ get_or last t 0)) → (get_or last t 0 ≡ 0) ⊎ ((i : ℕ) × (i < n + 1) × (key_at a i ≡ get_or last t 0))
            go (inl z) = inl z
            go (inr (i, b, q)) = inr (i, omega arith, q)

        once : (i j : ℕ) → i < j → j < n + 1 → Dec (j ≡ n) → key_at a i ≡ key_at a j → ⊥
        once i j l m (no e) q = w.once i j l (omega (arith, e)) q
        once i j l m (yes e) q =
            let k : key_at a i ≡ key = q ∙ (ap (key_at a) e ∙ sym is) in
            let t : key_at a i / 65536 % 8 ≡ s = rw k (sym of) in
            omega (arith, rw t at (w.under i (omega arith)), beyond)

        next : (i : ℕ) → i < n + 1 → Dec (i ≡ n) → (key_at a i % 65536 ≡ 1) ⊎ ((j : ℕ) × (j < n + 1) × (key_at a j + 1 ≡ key_at a i))
        next i l (no e) = go (w.next i (omega (arith, e)))
          where
            go : (key_at a i % 65536 ≡ 1) ⊎ ((j : ℕ) × (j < n) × (key_at a j + 1 ≡ key_at a i)) → (key_at a i % 65536 ≡ 1) ⊎ ((j : ℕ) × (j < n + 1) × (key_at a j + 1 ≡ key_at a i))
            go (inl z) = inl z
            go (inr (j, b, q)) = inr (j, omega arith, q)
        next i l (yes e) = rw (e, ← is) (go (follows_is (get_or last s 0) key on).1 (w.met s (omega arith)))
          where
            go : (key ≡ get_or last s 0 + 1) ⊎ (key % 65536 ≡ 1) → (get_or last s 0 ≡ 0) ⊎ ((i : ℕ) × (i < n) × (key_at a i ≡ get_or last s 0))
                → (key % 65536 ≡ 1) ⊎ ((j : ℕ) × (j < n + 1) × (key_at a j + 1 ≡ key))
            go (inr z) m = inl z
            go (inl z) (inl y) = inl (let q : key ≡ 1 = omega arith in rw q)
            go (inl z) (inr (j, b, q)) = inr (j, omega arith, omega arith)

  -- all records
  pub rising_kept : archive_test a ≡ true → AreBytes a → {last : List ℕ} → Rising a (records a) last → well_kept a ≡ true
  unfolding times
  rising_kept t b w = stands_kept a t b (λ x. record { once = once x; next = next x })
    where
      once : (x : ℕ) → times a x ≤ 1
      once x = count_single (has_key a x) (records a) (λ i j l m p q. w.once i j l m (eqb-true (key_at a i) x p ∙ sym (eqb-true (key_at a j) x q)))

      next : (x : ℕ) → 1 ≤ times a x → (x % 65536 ≡ 1) ⊎ (1 ≤ times a (x - 1))
      next x h = let (k, l, e) = key-found a t b x h in go k e (w.next k l)
        where
          go : (k : ℕ) → key_at a k ≡ x → (key_at a k % 65536 ≡ 1) ⊎ ((j : ℕ) × (j < records a) × (key_at a j + 1 ≡ key_at a k)) → (x % 65536 ≡ 1) ⊎ (1 ≤ times a (x - 1))
          go k e (inl z) = inl (rw e at z)
          go k e (inr (j, m, q)) = inr (count_has (has_key a (x - 1)) j (records a) m (eq-eqb (key_at a j) (x - 1) (omega arith)))
