-- Keys tell whether an archive is well kept. Assumes nothing.
use Prim.Native.Nat.{ℕ, zero, suc, ◌+◌, ◌*◌, ◌-◌, ◌%◌, ◌≤◌, ◌<◌}
use mathlib.Core.Path.{◌≡◌, refl, sym, ◌∙◌}
use mathlib.Core.Logic.{◌⊎◌, inl, inr}
use mathlib.Core.List.{List}
use mathlib.Core.Bool.{Bool, true, false, ◌||◌}
use native.Mathlib.Omega.{arith}
use native.Mathlib.Decide.{ℕ_discrete, dec_lt}
use lib.Dec.{eqb, ltb}
use borrow.Author.Tests.{ltb-true, lt-ltb, eqb-true, eqb-false, eq-eqb}
use Rattle.codec.specs.Num.{AreBytes}
use Rattle.codec.proofs.EveryLaws.{both, join, bool_iff, every_at, every_of}
use Rattle.codec.proofs.CountLaws.{count_same, count-found, count_has}
use Rattle.archive.specs.Archive.{archive_test, records}
use Rattle.events.specs.Events.{event_at, station_at, own_at}
use Rattle.events.proofs.Laws.{station-small, phase-small, own_some, own-small}
use Rattle.well_kept.specs.WellKept.{bears, bearers, kept_up_to, well_kept}
use Rattle.well_kept.specs.Keys.{key_of, key_at, no_key, has_key, times, follows}
use Rattle.well_kept.specs.Windows.{Stands}

-- ---- what follows a key
pub follows_is : (p v : ℕ) → follows p v ≡ true → (p < v) × ((v ≡ p + 1) ⊎ (v % 65536 ≡ 1))
unfolding follows
follows_is p v h =
    let b = both (ltb p v) _ h in
    (ltb-true p v b.0, go (eqb v (p + 1)) refl b.1)
  where
    go : (t : Bool) → eqb v (p + 1) ≡ t → (t || eqb (v % 65536) 1) ≡ true → (v ≡ p + 1) ⊎ (v % 65536 ≡ 1)
    go true e g = inl (eqb-true v (p + 1) e)
    go false e g = inr (eqb-true (v % 65536) 1 g)

pub follows-not : (p v : ℕ) → follows p v ≡ false → p < v → (v ≡ p + 1 → ⊥) × (v % 65536 ≡ 1 → ⊥)
unfolding follows
follows-not p v h l = go (eqb v (p + 1)) refl (eqb (v % 65536) 1) refl (rw (lt-ltb p v l) at h)
  where
    go : (t : Bool) → eqb v (p + 1) ≡ t → (u : Bool) → eqb (v % 65536) 1 ≡ u → (t || u) ≡ false → (v ≡ p + 1 → ⊥) × (v % 65536 ≡ 1 → ⊥)
    go true e u f g = let z : ◌≡◌ {A = ℕ} 0 1 = cc in absurd (omega arith)
    go false e true f g = let z : ◌≡◌ {A = ℕ} 0 1 = cc in absurd (omega arith)
    go false e false f g = (eqb-false v (p + 1) e, eqb-false (v % 65536) 1 f)

-- the key of a record with its own count left out
abbrev base : List ℕ → ℕ → ℕ
base a k = ((event_at a k).phase * 8 + station_at a k) * 65536

module _ (a : List ℕ) (tested : archive_test a ≡ true) (bytes : AreBytes a) where
  -- ---- a key by its parts
  key_is : (k : ℕ) → key_at a k ≡ ((event_at a k).phase * 8 + station_at a k) * 65536 + own_at a k
  unfolding key_of own_at station_at
  key_is k = refl

  pub key-own : (k : ℕ) → k < records a → (key_at a k % 65536 ≡ own_at a k) × (1 ≤ key_at a k)
  key-own k l = let o = own-small a tested bytes k l in let s = own_some a tested k l in (omega (arith, key_is k), omega (arith, key_is k))

  pub key_below : (k : ℕ) → k < records a → key_at a k < no_key
  key_below k l = omega (arith, key_is k, own-small a tested bytes k l, station-small a tested k l, phase-small a tested k l)

  -- record k bears own count c of station s in phase f exactly when it has their key
  module _ (s f c : ℕ) (sl : s < 8) (cl : c < 65536) where
    abbrev key : ℕ
    key = (f * 8 + s) * 65536 + c

    bears-key : (k : ℕ) → k < records a → bears a s f c k ≡ has_key a key k
    unfolding bears
    bears-key k l =
        bool_iff _ _
        (λ h. let b = both (eqb (station_at a k) s) _ h in
        let d = both (eqb (event_at a k).phase f) _ b.1 in
        let x = eqb-true (station_at a k) s b.0 in
        let y = eqb-true (event_at a k).phase f d.0 in
        let z = eqb-true (own_at a k) c d.1 in
        eq-eqb (key_at a k) key (key_is k ∙ rw (x, y, z)))
        (λ h. let e = eqb-true (key_at a k) key h in
        let o = own-small a tested bytes k l in
        let t = station-small a tested k l in
        join _ _ (eq-eqb (station_at a k) s (omega (arith, key_is k)))
        (join _ _ (eq-eqb (event_at a k).phase f (omega (arith, key_is k))) (eq-eqb (own_at a k) c (omega (arith, key_is k)))))

    pub bearers-are : bearers a s f c ≡ times a ((f * 8 + s) * 65536 + c)
    unfolding bearers times
    bearers-are = count_same (records a) (bears a s f c) (has_key a key) bears-key

  -- ---- the archive is well kept exactly when every key stands where it may
  module _ (k : ℕ) (l : k < records a) where
    up_to : kept_up_to a k ≡ true → (c : ℕ) → c < own_at a k → times a (base a k + (c + 1)) ≡ 1
    unfolding kept_up_to
    up_to h c g =
        sym (bearers-are (station_at a k) (event_at a k).phase (c + 1) (station-small a tested k l) (omega (arith, own-small a tested bytes k l)))
        ∙ eqb-true (bearers a (station_at a k) (event_at a k).phase (c + 1)) 1 (every_at (own_at a k) (λ (c : ℕ). eqb (bearers a (station_at a k) (event_at a k).phase (c + 1)) 1) c h g)

    of_up_to : ((c : ℕ) → c < own_at a k → times a (base a k + (c + 1)) ≡ 1) → kept_up_to a k ≡ true
    unfolding kept_up_to
    of_up_to h =
        every_of (own_at a k) (λ (c : ℕ). eqb (bearers a (station_at a k) (event_at a k).phase (c + 1)) 1)
        (λ c g. eq-eqb (bearers a (station_at a k) (event_at a k).phase (c + 1)) 1
        (bearers-are (station_at a k) (event_at a k).phase (c + 1) (station-small a tested k l) (omega (arith, own-small a tested bytes k l)) ∙ h c g))

  has_times : (k : ℕ) → k < records a → 1 ≤ times a (key_at a k)
  unfolding times
  has_times k l = count_has (has_key a (key_at a k)) k (records a) l (eq-eqb (key_at a k) (key_at a k) refl)

  pub key-found : (x : ℕ) → 1 ≤ times a x → (k : ℕ) × (k < records a) × (key_at a k ≡ x)
  unfolding times
  key-found x h = let f = count-found (has_key a x) (records a) h in (f.0, f.1, eqb-true (key_at a f.0) x f.2)

  -- from a key down to own count 1
  down : ((x : ℕ) → Stands a x) → (k : ℕ) → k < records a → (d c : ℕ) → c + 1 + d ≡ own_at a k → times a (base a k + (c + 1)) ≡ 1
  down st k l zero c e =
      let q : base a k + (c + 1) ≡ key_at a k = omega (arith, key_is k) in
      rw q (omega (arith, has_times k l, (st (key_at a k)).once))
  down st k l (suc d) c e =
      let up = down st k l d (c + 1) (omega arith) in
      let m : (base a k + (c + 1 + 1)) % 65536 ≡ c + 2 = omega (arith, own-small a tested bytes k l) in
      let q : base a k + (c + 1 + 1) - 1 ≡ base a k + (c + 1) = omega arith in
      go ((st (base a k + (c + 1 + 1))).next (omega (arith, up)))
    where
      go : ((base a k + (c + 1 + 1)) % 65536 ≡ 1) ⊎ (1 ≤ times a (base a k + (c + 1 + 1) - 1)) → times a (base a k + (c + 1)) ≡ 1
      go (inl z) = absurd (omega (arith, own-small a tested bytes k l))
      go (inr z) = let q : base a k + (c + 1 + 1) - 1 ≡ base a k + (c + 1) = omega arith in omega (arith, rw q at z, (st (base a k + (c + 1))).once)

  pub stands_kept : ((x : ℕ) → Stands a x) → well_kept a ≡ true
  unfolding well_kept
  stands_kept st = every_of (records a) (kept_up_to a) (λ k l. of_up_to k l (λ c g. down st k l (own_at a k - (c + 1)) c (omega arith)))

  pub kept_stands : well_kept a ≡ true → (x : ℕ) → Stands a x
  unfolding well_kept
  kept_stands h x = record { once = once (dec_lt 0 (times a x)); next = next }
    where
      at : (k : ℕ) → k < records a → (c : ℕ) → c < own_at a k → times a (base a k + (c + 1)) ≡ 1
      at k l = up_to k l (every_at (records a) (kept_up_to a) k h l)

      once : Dec (0 < times a x) → times a x ≤ 1
      once (no d) = omega (arith, d)
      once (yes d) =
          let (k, l, e) = key-found x (omega (arith, d)) in
          let o = own_some a tested k l in
          let q : base a k + (own_at a k - 1 + 1) ≡ x = omega (arith, key_is k) in
          omega (arith, rw q at (at k l (own_at a k - 1) (omega arith)))

      next : 1 ≤ times a x → (x % 65536 ≡ 1) ⊎ (1 ≤ times a (x - 1))
      next g = let (k, l, e) = key-found x g in go k l e (ℕ_discrete (own_at a k) 1)
        where
          go : (k : ℕ) → k < records a → key_at a k ≡ x → Dec (own_at a k ≡ 1) → (x % 65536 ≡ 1) ⊎ (1 ≤ times a (x - 1))
          go k l e (yes o) = inl (omega (arith, (key-own k l).0))
          go k l e (no o) =
              let s = own_some a tested k l in
              let q : base a k + (own_at a k - 2 + 1) ≡ x - 1 = omega (arith, key_is k) in
              inr (omega (arith, rw q at (at k l (own_at a k - 2) (omega arith))))
