-- The items of a link, walked from what its receiver has taken to what its sender has put. Assumes nothing.
use Prim.Native.Nat.{ℕ, suc, ◌+◌, ◌≤◌, ◌<◌}
use mathlib.Core.Path.{◌≡◌, refl, ap}
use mathlib.Core.List.{List, [], ◌∷◌, ◌++◌}
use native.Mathlib.Omega.{arith}
use lib.ListN.{length}
use Rattle.reset.specs.Clock.{Clock}
use Rattle.reset.specs.State.{Item, message, reset_req, reset_done}
use Rattle.reset.specs.Receipts.{messages}
use Rattle.reset.proofs.Changes.{Tagged, tags}

-- The receiver, in phase p, has taken r reset_req and e reset_done (plus one); the sender has put R and E. Between a reset_req and its reset_done lies
-- nothing, and no message lies past the receiver's phase.
abbrev pub Flow : {K : Clock} → ℕ → ℕ → ℕ → List (Item K) → ℕ → ℕ → Type 0
Flow p r e [] R E = (r ≡ R) × (e ≡ E)
Flow p r e (message w g ∷ q) R E = (e ≡ suc r) × (r ≤ p) × Flow p r e q R E
Flow p r e (reset_req ∷ q) R E = (e ≡ suc r) × Flow p (suc r) e q R E
Flow p r e (reset_done ∷ q) R E = (e ≡ r) × Flow p r (suc e) q R E

module _ {K : Clock} where
  -- what was taken is at most what was put
  pub flow-reqs : (p r e : ℕ) (q : List (Item K)) (R E : ℕ) → Flow p r e q R E → r ≤ R
  flow-reqs p r e [] R E h = omega arith
  flow-reqs p r e (message w g ∷ q) R E h = flow-reqs p r e q R E h.2
  flow-reqs p r e (reset_req ∷ q) R E h = let k = flow-reqs p (suc r) e q R E h.1 in omega arith
  flow-reqs p r e (reset_done ∷ q) R E h = flow-reqs p r (suc e) q R E h.1

  pub flow-dones : (p r e : ℕ) (q : List (Item K)) (R E : ℕ) → Flow p r e q R E → e ≤ E
  flow-dones p r e [] R E h = omega arith
  flow-dones p r e (message w g ∷ q) R E h = flow-dones p r e q R E h.2
  flow-dones p r e (reset_req ∷ q) R E h = flow-dones p (suc r) e q R E h.1
  flow-dones p r e (reset_done ∷ q) R E h = let k = flow-dones p r (suc e) q R E h.1 in omega arith

  -- the receiver's phase grows
  pub flow_up : (p p' r e : ℕ) (q : List (Item K)) (R E : ℕ) → p ≤ p' → Flow p r e q R E → Flow p' r e q R E
  flow_up p p' r e [] R E u h = h
  flow_up p p' r e (message w g ∷ q) R E u h = (h.0, omega arith, flow_up p p' r e q R E u h.2)
  flow_up p p' r e (reset_req ∷ q) R E u h = (h.0, flow_up p p' (suc r) e q R E u h.1)
  flow_up p p' r e (reset_done ∷ q) R E u h = (h.0, flow_up p p' r (suc e) q R E u h.1)

  -- the sender puts more
  pub flow-append : (p r e : ℕ) (q q' : List (Item K)) (R E R' E' : ℕ) → Flow p r e q R E → Flow p R E q' R' E' → Flow p r e (q ++ q') R' E'
  flow-append p r e [] q' R E R' E' h k = rw (h.0, h.1) k
  flow-append p r e (message w g ∷ q) q' R E R' E' h k = (h.0, h.1, flow-append p r e q q' R E R' E' h.2 k)
  flow-append p r e (reset_req ∷ q) q' R E R' E' h k = (h.0, flow-append p (suc r) e q q' R E R' E' h.1 k)
  flow-append p r e (reset_done ∷ q) q' R E R' E' h k = (h.0, flow-append p r (suc e) q q' R E R' E' h.1 k)

  pub tags-append : (p r e : ℕ) (q q' : List (Item K)) (R E : ℕ) → Flow p r e q R E → tags r (q ++ q') ≡ tags r q ++ tags R q'
  tags-append p r e [] q' R E h = rw h.0
  tags-append p r e (message w g ∷ q) q' R E h =
      ap {B = List (Tagged K)} (λ l. record { phase = r; load = w; register = g } ∷ l) (tags-append p r e q q' R E h.2)
  tags-append p r e (reset_req ∷ q) q' R E h = tags-append p (suc r) e q q' R E h.1
  tags-append p r e (reset_done ∷ q) q' R E h = tags-append p r (suc e) q q' R E h.1

  -- the items that are no messages are the control items put and not taken
  pub flow-length : (p r e : ℕ) (q : List (Item K)) (R E : ℕ) → Flow p r e q R E → length q + (r + e) ≡ messages q + (R + E)
  flow-length p r e [] R E h = omega arith
  flow-length p r e (message w g ∷ q) R E h = omega (arith, flow-length p r e q R E h.2)
  flow-length p r e (reset_req ∷ q) R E h = omega (arith, flow-length p (suc r) e q R E h.1)
  flow-length p r e (reset_done ∷ q) R E h = omega (arith, flow-length p r (suc e) q R E h.1)

  -- where the next reset_req is taken, no message lies
  pub flow-past : (p r e : ℕ) (q : List (Item K)) (R E : ℕ) → p < r → Flow p r e q R E → messages q ≡ 0
  flow-past p r e [] R E l h = refl
  flow-past p r e (message w g ∷ q) R E l h = absurd (omega arith)
  flow-past p r e (reset_req ∷ q) R E l h = flow-past p (suc r) e q R E (omega arith) h.1
  flow-past p r e (reset_done ∷ q) R E l h = flow-past p r (suc e) q R E l h.1

  pub messages-append : (q q' : List (Item K)) → messages (q ++ q') ≡ messages q + messages q'
  messages-append [] q' = omega arith
  messages-append (message w g ∷ q) q' = omega (arith, messages-append q q')
  messages-append (reset_req ∷ q) q' = messages-append q q'
  messages-append (reset_done ∷ q) q' = messages-append q q'
