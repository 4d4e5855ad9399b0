-- The vector clock theorem, with no network in it: over positions that have a station, a phase and counts, and edges between them, a position reaches
-- another of its phase by edges exactly when none of its counts is greater. Assumes nothing.
use Prim.Native.Nat.{ℕ, zero, suc, ◌≤◌, ◌<◌}
use mathlib.Core.Path.{◌≡◌, refl, sym}
use mathlib.Core.Logic.{◌≢◌, ◌↔◌, ◌⊎◌, inl, inr, ⊎_elim}
use native.Mathlib.Decide.{ℕ_discrete, dec_lt}
use native.Mathlib.Omega.{arith}
use Rattle.reset.proofs.Cases.{by_dec}

-- the smallest transitive relation that has the edges
pub data Chain (Edge : ℕ → ℕ → Type 0) : ℕ → ℕ → Type 0 where
  edge : {a b : ℕ} → Edge a b → Chain Edge a b
  join : {a b c : ℕ} → Chain Edge a b → Chain Edge b c → Chain Edge a c

-- What the positions below n have to do with the edges: `station`, `phase` and the counts `vc`, one for each station.
pub record Clocked (n : ℕ) (station phase : ℕ → ℕ) (vc : ℕ → ℕ → ℕ) (Edge : ℕ → ℕ → Type 0) : Type 0 where
  -- edges go up in position and never down in phase; one between two phases stays at its station
  pub up : (a b : ℕ) → Edge a b → a < b
  pub ends : (a b : ℕ) → Edge a b → b < n
  pub later : (a b : ℕ) → Edge a b → phase a ≤ phase b
  pub stays : (a b : ℕ) → Edge a b → phase a ≢ phase b → station a ≡ station b
  -- within a phase, no count of another station falls
  pub grow : (a b : ℕ) → Edge a b → phase a ≡ phase b → (k : ℕ) → k ≢ station b → vc a k ≤ vc b k
  -- a station's positions are in a row; in one phase its own count rises, from 1
  pub local : (a b : ℕ) → a < b → b < n → station a ≡ station b → Edge a b
  pub rise : (a b k : ℕ) → a < b → b < n → station a ≡ k → station b ≡ k → phase a ≡ phase b → vc a k < vc b k
  pub some : (b : ℕ) → b < n → zero < vc b (station b)
  -- a count of another station came along an edge
  pub from : (b k : ℕ) → b < n → k ≢ station b → zero < vc b k → (y : ℕ) × Edge y b × (phase y ≡ phase b) × (vc b k ≤ vc y k)

-- b is a, or reached from it by edges
abbrev pub AtOrAfter : (ℕ → ℕ → Type 0) → ℕ → ℕ → Type 0
AtOrAfter Edge a b = (a ≡ b) ⊎ Chain Edge a b

pub along : {Edge : ℕ → ℕ → Type 0} {a b c : ℕ} → AtOrAfter Edge a b → Chain Edge b c → Chain Edge a c
along (inl p) d = rw p d
along (inr c) d = join c d

module _ {n : ℕ} {station phase : ℕ → ℕ} {vc : ℕ → ℕ → ℕ} {Edge : ℕ → ℕ → Type 0} (C : Clocked n station phase vc Edge) where
  chain_up : {a b : ℕ} → Chain Edge a b → a < b
  chain_up {a} {b} (edge e) = C.up a b e
  chain_up (join p q) = omega (arith, chain_up p, chain_up q)

  chain_ends : {a b : ℕ} → Chain Edge a b → b < n
  chain_ends {a} {b} (edge e) = C.ends a b e
  chain_ends (join p q) = chain_ends q

  pub chain-later : {a b : ℕ} → Chain Edge a b → phase a ≤ phase b
  chain-later {a} {b} (edge e) = C.later a b e
  chain-later (join p q) = omega (arith, chain-later p, chain-later q)

  -- a position's own count reaches another position of its phase only along a chain
  abbrev Back : ℕ → ℕ → Type 0
  Back a b = b < n → phase a ≡ phase b → vc a (station a) ≤ vc b (station a) → AtOrAfter Edge a b

  below : (m a b : ℕ) → a < n → b < m → Back a b
  below zero a b al h bl p le = absurd (omega arith)
  below (suc m) a b al h bl p le =
      by_dec (ℕ_discrete (station a) (station b))
      (λ t. by_dec (dec_lt a b) (λ l. inr (edge (C.local a b l bl t)))
      (λ l. by_dec (dec_lt b a) (λ g. absurd (omega (arith, C.rise b a (station a) g al (sym t) refl (sym p)))) (λ g. inl (omega arith))))
      (λ t. let (y, e, q, l) = C.from b (station a) bl t (omega (arith, C.some a al)) in
      let k = C.up y b e in
      inr (along (below m a y al (omega arith) (omega arith) (omega arith) (omega arith)) (edge e)))

  pub back : (a b : ℕ) → a < n → Back a b
  back a b al = below (suc b) a b al (omega arith)

  -- at the end of a chain within a phase the own count is greater than at its start
  pub chain-rise : {a b : ℕ} → Chain Edge a b → phase a ≡ phase b → (k : ℕ) → k ≡ station b → vc a k < vc b k
  chain-rise {a} {b} c p k q =
      by_dec (dec_lt (vc a k) (vc b k)) (λ l. l)
      (λ l. absurd (⊎_elim (λ e. omega (arith, chain_up c)) (λ d. omega (arith, chain_up c, chain_up d))
      (back b a (chain_ends c) (omega (arith, chain_up c, chain_ends c)) (sym p) (rw (← q) (omega arith)))))

  -- along a chain within a phase no count falls
  pub chain-grow : {a b : ℕ} → Chain Edge a b → phase a ≡ phase b → (k : ℕ) → vc a k ≤ vc b k
  chain-grow {a} {b} (edge e) p k = by_dec (ℕ_discrete k (station b)) (λ q. omega (arith, chain-rise (edge e) p k q)) (C.grow a b e p k)
  chain-grow (join c d) p k =
      let l = chain-later c in
      let m = chain-later d in
      omega (arith, chain-grow c (omega arith) k, chain-grow d (omega arith) k)

  -- so, within a phase, chains are exactly the order of counts
  pub chain_exactly : (a b : ℕ) → a < n → b < n → phase a ≡ phase b → Chain Edge a b ↔ ((a ≢ b) × ((k : ℕ) → vc a k ≤ vc b k))
  chain_exactly a b al bl p = (
    λ c. (λ e. omega (arith, chain_up c), chain-grow c p),
    λ h. ⊎_elim (λ e. absurd (h.0 e)) (λ c. c) (back a b al bl p (h.1 (station a))),
  )
