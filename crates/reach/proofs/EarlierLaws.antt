-- Where each station but 0 has a link from one before it, every station is reached. Assumes nothing.
use Prim.Native.Nat.{ℕ, zero, suc, ◌≤◌, ◌<◌}
use mathlib.Core.Path.{◌≡◌, refl, sym, ap}
use mathlib.Core.List.{List, [], ◌∷◌}
use mathlib.Core.Bool.{Bool, true, false, not, ◌||◌, and-true, true≢false}
use native.Mathlib.Omega.{arith}
use native.Mathlib.Decide.{ℕ_discrete, dec_lt}
use lib.Dec.{eqb}
use lib.ListN.{length, get_or, get_or-eq_default}
use borrow.Author.Tests.{not-true, ne_eqb}
use Rattle.codec.specs.Every.{every}
use Rattle.codec.proofs.EveryLaws.{every_at}
use mir.Syntax.{w8}
use mir.Val.{Val}
use denote.Laws.{Is}
use denote.Plain.{UInt}
use denote.Array.{Array, each}
use denote.Shadow.{shadow}
use Rattle.reset.specs.Reach.{limit, linked, Path, here, further, Reached, every_reached}
use Rattle.reset.proofs.ReachLaws.{reached-test}
use Rattle.reach.specs.Order.{has_earlier, in_order}

-- where not all pass, one fails
one_fails : (n : ℕ) (p : ℕ → Bool) → every n p ≡ false → (i : ℕ) × (i < n) × (p i ≡ false)
unfolding every
one_fails zero p e = absurd (true≢false e)
one_fails (suc n) p e = go (p n) refl (one_fails n p)
  where
    go : (b : Bool) → p n ≡ b → (every n p ≡ false → (i : ℕ) × (i < n) × (p i ≡ false)) → (i : ℕ) × (i < suc n) × (p i ≡ false)
    go false f rec = (n, omega arith, f)
    go true f rec = let r = rec (rw (f, and-true) at e) in (r.0, omega (arith, r.1), r.2)

earlier : (m : List (List ℕ)) (j : ℕ) → has_earlier m j ≡ true → (i : ℕ) × (i < j) × (linked m i j ≡ true)
unfolding has_earlier linked
earlier m j h = let r = one_fails j (λ (i : ℕ). eqb (limit m i j) 0) (not-true _ h) in (r.0, r.1, ap not r.2)

order_path : (n : ℕ) (m : List (List ℕ)) → in_order n m ≡ true → (k : ℕ) → k ≤ n → Reached k m
unfolding in_order
order_path n m h zero l i g = absurd (omega arith)
order_path n m h (suc k) l i g = go (order_path n m h k (omega arith)) (ℕ_discrete i k) (ℕ_discrete k 0)
  where
    go : Reached k m → Dec (i ≡ k) → Dec (k ≡ 0) → Path m 0 i
    go r (no d) z = r i (omega arith)
    go r (yes p) (yes z) = rw (p, z) here
    go r (yes p) (no z) =
        let t : (eqb k 0 || has_earlier m k) ≡ true = every_at n (λ (j : ℕ). eqb j 0 || has_earlier m j) k h (omega arith) in
        let x = earlier m k (rw (ne_eqb k 0 z) at t) in
        rw p (further (r x.0 x.1) x.2)

-- an array of arrays has rows of one length
row-length : (m : List (List ℕ)) (us : List Val) → shadow (each (List ℕ) (Array (UInt w8) 8).own_val m us) → (i : ℕ) → i < length m → length (get_or m i []) ≡ 8
row-length [] us s i h = absurd (omega arith)
row-length (x ∷ m) [] s i h = absurd s
row-length (x ∷ m) (u ∷ us) s zero h = s.0.1.0.1
row-length (x ∷ m) (u ∷ us) s (suc i) h = row-length m us s.1 i (omega arith)

table-reached : (m : List (List ℕ)) (vs : List Val) → Is (Array (Array (UInt w8) 8) 8) m vs → (n : ℕ) → Reached n m → every_reached n m ≡ true
unfolding linked limit
table-reached m vs t n r = reached-test m (λ i j e. go i j e (dec_lt i 8) (dec_lt j 8)) n r
  where
    go : (i j : ℕ) → not (eqb (get_or (get_or m i []) j 0) 0) ≡ true → Dec (i < 8) → Dec (j < 8) → (i < 8) × (j < 8)
    go i j e (yes p) (yes q) = (p, q)
    go i j e (yes p) (no q) =
        let l = row-length m t.0 t.1.1 i (rw t.1.0.1 p) in
        absurd (true≢false (sym (rw (get_or-eq_default (get_or m i []) 0 {n = j} (omega arith)) at e)))
    go i j e (no p) d =
        let l = t.1.0.1 in
        absurd (true≢false (sym (rw (get_or-eq_default m [] {n = i} (omega arith)) at e)))

pub order-reached : (m : List (List ℕ)) (vs : List Val) → Is (Array (Array (UInt w8) 8) 8) m vs → (n : ℕ) → in_order n m ≡ true → every_reached n m ≡ true
order-reached m vs t n h = table-reached m vs t n (order_path n m h n (omega arith))
