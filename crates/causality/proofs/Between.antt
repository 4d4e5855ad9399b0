-- Happened-before between phases, with no network in it: the stations that a position reaches before a phase go by last counts, and a position of a later
-- phase is after another exactly when it has a count of a station so reached. Assumes nothing.
use Prim.Native.Nat.{ℕ, zero, suc, ◌≤◌, ◌<◌}
use mathlib.Core.Path.{◌≡◌, refl, sym, ap, ◌∙◌}
use mathlib.Core.Logic.{◌↔◌, ◌⊎◌, inl, inr, ⊎_elim}
use native.Mathlib.Decide.{ℕ_discrete, dec_lt}
use native.Mathlib.Omega.{arith}
use Rattle.causality.proofs.Order.{Chain, edge, join, Clocked, AtOrAfter, along, chain-later, chain-grow, back}
use Rattle.reset.proofs.Cases.{by_dec}

-- Station k is reached by position a before phase f: it has a position of a lower phase that is a or after a.
pub record ReachedBefore (n : ℕ) (station phase : ℕ → ℕ) (Edge : ℕ → ℕ → Type 0) (a f k : ℕ) : Type 0 where
  pub y : ℕ
  pub inside : y < n
  pub stationed : station y ≡ k
  pub lower : phase y < f
  pub after : AtOrAfter Edge a y

-- v are the last counts of station s in phase f: those of its position there that has the greatest own count, or all 0 where there is none.
pub record LastCounts (n : ℕ) (station phase : ℕ → ℕ) (vc : ℕ → ℕ → ℕ) (s f : ℕ) (v : ℕ → ℕ) : Type 0 where
  pub greatest : (x : ℕ) → x < n → station x ≡ s → phase x ≡ f → vc x s ≤ v s
  pub of_one_lem : (k : ℕ) → zero < v k → (y : ℕ) × (y < n) × (station y ≡ s) × (phase y ≡ f) × ((j : ℕ) → v j ≡ vc y j)

module _ {n : ℕ} {station phase : ℕ → ℕ} {vc : ℕ → ℕ → ℕ} {Edge : ℕ → ℕ → Type 0} (C : Clocked n station phase vc Edge) where
  abbrev Reached : ℕ → ℕ → ℕ → Type 0
  Reached = ReachedBefore n station phase Edge

  abbrev Last : ℕ → ℕ → (ℕ → ℕ) → Type 0
  Last = LastCounts n station phase vc

  -- ---- a position, or one after it
  at_at : {a b c : ℕ} → AtOrAfter Edge a b → AtOrAfter Edge b c → AtOrAfter Edge a c
  at_at u (inl e) = rw (← e) u
  at_at u (inr d) = inr (along u d)

  at_later : {a b : ℕ} → AtOrAfter Edge a b → phase a ≤ phase b
  at_later (inl e) = rw e (omega arith)
  at_later (inr c) = chain-later C c

  at_grow : {a b : ℕ} → AtOrAfter Edge a b → phase a ≡ phase b → (k : ℕ) → vc a k ≤ vc b k
  at_grow (inl e) p k = rw e (omega arith)
  at_grow (inr c) p k = chain-grow C c p k

  -- a station's position of a lower phase comes first
  first : (x y : ℕ) → x < n → station x ≡ station y → phase x < phase y → x < y
  first x y xl e l =
      by_dec (dec_lt x y) (λ h. h)
      (λ h. absurd (by_dec (ℕ_discrete y x) (λ q. omega (arith, ap phase q)) (λ q. omega (arith, C.later y x (C.local y x (omega arith) xl (sym e))))))

  -- ---- into a later phase
  reached_by : {a b f g k : ℕ} (R : Reached b f k) → phase R.y < g → AtOrAfter Edge a R.y → Reached a g k
  reached_by R l u = record { y = R.y; inside = R.inside; stationed = R.stationed; lower = l; after = u }

  -- a station reached before a phase is reached before a later one
  pub still_reached : {a f g k : ℕ} → f ≤ g → Reached a f k → Reached a g k
  still_reached l R = reached_by R (omega (arith, R.lower)) R.after

  -- what is after a in a later phase has a count of a station reached before
  across : {a b : ℕ} → Chain Edge a b → phase a < phase b → (k : ℕ) × Reached a (phase b) k × (zero < vc b k)
  across {a} {b} (edge e) l = (
    station a,
    record { y = a; inside = omega (arith, C.up a b e, C.ends a b e); stationed = refl; lower = l; after = inl refl },
    rw (C.stays a b e (λ q. omega arith)) (C.some b (C.ends a b e)),
  )
  across {a} {b} (join {b = m} c d) l =
      by_dec (dec_lt (phase m) (phase b))
      (λ h. let (k, R, p) = across d h in (k, reached_by R R.lower (at_at (inr c) R.after), p))
      (λ h. let q : phase m ≡ phase b = omega (arith, chain-later C d) in
      let (k, R, p) = across c (omega arith) in
      (k, still_reached (omega arith) R, omega (arith, chain-grow C d q k)))

  -- and what has such a count is after a
  counted : (m a b f k : ℕ) → b < m → b < n → phase b ≡ f → Reached a f k → zero < vc b k → Chain Edge a b
  counted zero a b f k h bl p R c = absurd (omega arith)
  counted (suc m) a b f k h bl p R c =
      by_dec (ℕ_discrete k (station b))
      (λ e. let t : station R.y ≡ station b = R.stationed ∙ e in
      along R.after (edge (C.local R.y b (first R.y b R.inside t (omega (arith, R.lower))) bl t)))
      (λ e. let (y, d, q, l) = C.from b k bl e c in
      let u = C.up y b d in
      join (counted m a y f k (omega arith) (omega arith) (q ∙ p) R (omega arith)) (edge d))

  -- A position of a later phase is after a exactly when it has a count above 0 for a station that a reached before that phase.
  pub after_exactly : (a b : ℕ) → b < n → phase a < phase b → Chain Edge a b ↔ ((k : ℕ) × Reached a (phase b) k × (zero < vc b k))
  after_exactly a b bl l = (λ c. across c l, λ (k, R, h). counted (suc b) a b (phase b) k (omega arith) bl refl R h)

  -- ---- by last counts
  -- each position of a station in a phase is that of the last counts there, or before it
  last_after : {s f : ℕ} {v : ℕ → ℕ} → Last s f v → (x : ℕ) → x < n → station x ≡ s → phase x ≡ f
      → (y : ℕ) × (phase y ≡ f) × ((j : ℕ) → v j ≡ vc y j) × AtOrAfter Edge x y
  last_after {s} L x xl e p =
      let g = L.greatest x xl e p in
      let (y, yl, t, q, w) = L.of_one_lem s (omega (arith, rw e at (C.some x xl))) in
      (y, q, w, back C x y xl yl (p ∙ sym q) (rw e (omega (arith, w s))))

  -- The stations reached before the phase behind a's own: those whose last counts in a's phase have, for a's station, at least a's own count.
  pub reached_first_lem : (a s : ℕ) (v : ℕ → ℕ) → a < n → Last s (phase a) v → Reached a (suc (phase a)) s ↔ (vc a (station a) ≤ v (station a))
  reached_first_lem a s v al L = (
    λ R.
        let p : phase R.y ≡ phase a = omega (arith, R.lower, at_later R.after) in
        let (y, q, w, u) = last_after L R.y R.inside R.stationed p in
        omega (arith, w (station a), at_grow (at_at R.after u) (sym q) (station a)),
    λ h.
        let (y, yl, t, q, w) = L.of_one_lem (station a) (omega (arith, C.some a al)) in
        record { y = y; inside = yl; stationed = t; lower = omega arith; after = back C a y al yl (sym q) (omega (arith, w (station a))) },
  )

  -- Those reached before the phase behind a later one f: those reached before f, and those whose last counts in f are above 0 for a station reached before f.
  pub reached_next_lem : (a s f : ℕ) (v : ℕ → ℕ) → phase a < f → Last s f v
      → Reached a (suc f) s ↔ (Reached a f s ⊎ ((k : ℕ) × Reached a f k × (zero < v k)))
  reached_next_lem a s f v l L = (
    λ R. by_dec (dec_lt (phase R.y) f)
        (λ h. inl (reached_by R h R.after))
        (λ h. let (y, q, w, u) = last_after L R.y R.inside R.stationed (omega (arith, R.lower)) in
        ⊎_elim (λ e. absurd (omega (arith, ap phase e)))
        (λ d. let (k, S, c) = across d (omega arith) in inr (k, still_reached (omega arith) S, omega (arith, w k)))
        (at_at R.after u)),
    ⊎_elim (still_reached (omega arith)) (λ (k, R, h).
        let (y, yl, t, q, w) = L.of_one_lem k h in
        record { y = y; inside = yl; stationed = t; lower = omega arith; after = inr (counted (suc y) a y f k (omega arith) yl q R (omega (arith, w k))) }),
  )
