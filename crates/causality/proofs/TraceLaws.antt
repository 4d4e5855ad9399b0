-- Laws of what is counted and gathered of the first entries of a list. Assumes nothing.
use Prim.Native.Nat.{ℕ, zero, suc, ◌+◌, ◌≤◌, ◌<◌}
use mathlib.Core.Path.{◌≡◌, refl, sym, ap, ◌∙◌}
use mathlib.Core.List.{List, [], ◌∷◌, ◌++◌, append-nil}
use mathlib.Core.Bool.{Bool, true, false, cond, ◌&&◌}
use native.Mathlib.Omega.{arith}
use native.Mathlib.Decide.{ℕ_discrete, dec_lt}
use lib.Dec.{eqb}
use lib.ListN.{get_or, drop, length, length-append, get_or-append}
use lib.Seq.{get_or_at, drop-cons, drop-append-le}
use borrow.Author.Tests.{eqb-true}
use Rattle.codec.proofs.EveryLaws.{both}
use Rattle.clock.specs.Timestamp.{tick, raised}
use Rattle.reset.specs.Steps.{Step, enter, send, recv, start, station_of_step}
use Rattle.causality.specs.Plain.{Message}
use Rattle.causality.specs.HappenedBefore.{Accepted, entry_at, station_of, phase_of, timestamp_of, is_send, is_recv, count, GoesWith}
use Rattle.causality.proofs.Trace.{record_station, counts_before, those, under_way, Follows, own, sent, received}
use Rattle.causality.specs.Sound.{sent_message}
use Rattle.reset.proofs.Cases.{by_test, by_dec, clash}

-- ---- the next of a list
pub drop_head : {A : Type 0} (l : List A) (m : ℕ) (x : A) (r : List A) → drop m l ≡ x ∷ r → (d : A) → (get_or l m d ≡ x) × (drop (suc m) l ≡ r)
drop_head [] zero x r h d = clash (cc)
drop_head [] (suc m) x r h d = clash (cc)
drop_head (y ∷ l) zero x r h d = (cc, cc)
drop_head (y ∷ l) (suc m) x r h d = drop_head l m x r h d

-- ---- which link a send is on, and a recv from
recv_no_send : (a b : ℕ) (p : Step) → is_recv a b p ≡ true → is_send a b p ≡ false
recv_no_send a b (enter i g) h = refl
recv_no_send a b (send i j g) h = clash (sym h)
recv_no_send a b (recv i j) h = refl
recv_no_send a b (start i) h = refl

same_ends : (x y a b a' b' : ℕ) → (eqb x a && eqb y b) ≡ true → (eqb x a' && eqb y b') ≡ true → (a ≡ a') × (b ≡ b')
same_ends x y a b a' b' h k =
    let t = both (eqb x a) _ h in
    let u = both (eqb x a') _ k in
    (sym (eqb-true x a t.0) ∙ eqb-true x a' u.0, sym (eqb-true y b t.1) ∙ eqb-true y b' u.1)

send-link : (a b a' b' : ℕ) (p : Step) → is_send a b p ≡ true → is_send a' b' p ≡ true → (a ≡ a') × (b ≡ b')
send-link a b a' b' (enter i g) h k = clash (sym h)
send-link a b a' b' (send i j g) h k = same_ends i j a b a' b' h k
send-link a b a' b' (recv i j) h k = clash (sym h)
send-link a b a' b' (start i) h k = clash (sym h)

recv-link : (a b a' b' : ℕ) (p : Step) → is_recv a b p ≡ true → is_recv a' b' p ≡ true → (a ≡ a') × (b ≡ b')
recv-link a b a' b' (enter i g) h k = clash (sym h)
recv-link a b a' b' (send i j g) h k = clash (sym h)
recv-link a b a' b' (recv i j) h k = same_ends j i a b a' b' h k
recv-link a b a' b' (start i) h k = clash (sym h)

-- ---- entries counted
module _ (p : Step → Bool) (E : List Accepted) where
  pub count_up : (x z : ℕ) → x < z → count p E x + cond (p (entry_at E x).step) 1 0 ≤ count p E z
  count_up x zero l = absurd (omega arith)
  count_up x (suc z) l = by_dec (ℕ_discrete x z) (λ q. rw q (omega arith)) (λ q. let h = count_up x z (omega arith) in omega arith)

  -- the k-th of them is one entry
  pub count_one : (x z : ℕ) → p (entry_at E x).step ≡ true → p (entry_at E z).step ≡ true → count p E x ≡ count p E z → x ≡ z
  count_one x z px pz e =
      by_dec (dec_lt x z) (λ l. let h : count p E x + 1 ≤ count p E z = rw px at (count_up x z l) in absurd (omega arith))
      (λ l. by_dec (dec_lt z x) (λ g. let h : count p E z + 1 ≤ count p E x = rw pz at (count_up z x g) in absurd (omega arith)) (λ g. omega arith))

  -- ---- entries gathered
  pub those-length : (y : ℕ) → length (those p E y) ≡ count p E y
  those-length zero = refl
  those-length (suc y) =
      let h = those-length y in
      by_test (p (entry_at E y).step) (λ e. rw (e, length-append) (omega arith)) (λ e. rw (e, length-append) (omega arith))

  -- entry x is in its place among them
  pub those_at : (x y : ℕ) → x < y → p (entry_at E x).step ≡ true → (d : Accepted) → get_or (those p E y) (count p E x) d ≡ entry_at E x
  those_at x zero l px d = absurd (omega arith)
  those_at x (suc y) l px d =
      by_dec (ℕ_discrete x y)
      (λ q. let e : p (entry_at E y).step ≡ true = rw q at px in rw (q, e) (get_or_at (those p E y) (entry_at E y) [] d (count p E y) (those-length y)))
      (λ q. let h : count p E x + 1 ≤ count p E y = rw px at (count_up x y (omega arith)) in
      get_or-append (those p E y) _ d (count p E x) (omega (arith, those-length y)) ∙ those_at x y (omega arith) px d)

  -- each place among them is an entry's
  abbrev pub Nth : ℕ → ℕ → Type 0
  Nth y k = (x : ℕ) × (x < y) × (p (entry_at E x).step ≡ true) × (count p E x ≡ k)

  pub those_nth : (y k : ℕ) → k < count p E y → Nth y k
  those_nth zero k l = absurd (omega arith)
  those_nth (suc y) k l =
      by_dec (dec_lt k (count p E y)) (λ h. let n = those_nth y k h in (n.0, let m = n.1 in omega arith, n.2, n.3))
      (λ h. by_test (p (entry_at E y).step)
      (λ e. let l' : k < count p E y + 1 = rw e at l in (y, omega arith, e, omega arith))
      (λ e. let l' : k < count p E y + 0 = rw e at l in absurd (omega arith)))

-- ---- one receipt, one send
pub goes_on : (E : List Accepted) (x y a b : ℕ) → GoesWith E x y → is_recv a b (entry_at E y).step ≡ true
    → (is_send a b (entry_at E x).step ≡ true) × (count (is_send a b) E x ≡ count (is_recv a b) E y)
goes_on E x y a b g r = let t = recv-link a b g.a g.b (entry_at E y).step r g.received in rw (t.0, t.1) (g.sent, g.same_number)

-- the same by its send
pub goes_from : (E : List Accepted) (x y a b : ℕ) → GoesWith E x y → is_send a b (entry_at E x).step ≡ true
    → (is_recv a b (entry_at E y).step ≡ true) × (count (is_send a b) E x ≡ count (is_recv a b) E y)
goes_from E x y a b g r = let t = send-link a b g.a g.b (entry_at E x).step r g.sent in rw (t.0, t.1) (g.received, g.same_number)

pub goes_one : (E : List Accepted) (x z y : ℕ) → GoesWith E x y → GoesWith E z y → x ≡ z
goes_one E x z y g h =
    let t = goes_on E z y g.a g.b h g.received in
    count_one (is_send g.a g.b) E x z g.sent t.0 (g.same_number ∙ sym t.1)

-- ---- an entry takes no message and counts 1, or takes that of a send
pub by_follows : {A : Type 0} {E : List Accepted} {T : List (List Message)} {y : ℕ} → Follows E T y
    → (((a b : ℕ) → is_recv a b (entry_at E y).step ≡ false) → timestamp_of E y ≡ tick (record_station E y) (counts_before E y) → A)
    → ((x : ℕ) → x < y → GoesWith E x y → phase_of E x ≡ phase_of E y → get_or T y [] ≡ sent_message (entry_at E x) ∷ []
    → timestamp_of E y ≡ raised (record_station E y) (counts_before E y) (timestamp_of E x) → A) → A
by_follows (own g s t e) f h = f (λ a b. rw s) e
by_follows (sent j s t e) f h = f (λ a b. rw s) e
by_follows (received j x s xl g p t e) f h = h x xl g p t e

-- its record bears the station that took its step
pub follows-station : {E : List Accepted} {T : List (List Message)} {y : ℕ} → Follows E T y → station_of E y ≡ record_station E y
follows-station (own g s t e) = ap station_of_step s
follows-station (sent j s t e) = ap station_of_step s
follows-station (received j x s xl g p t e) = ap station_of_step s

-- ---- no more are received than were sent
pub fewer : (E : List Accepted) (T : List (List Message)) (a b m : ℕ) → ((y : ℕ) → y < m → Follows E T y) → count (is_recv a b) E m ≤ count (is_send a b) E m
fewer E T a b zero f = omega arith
fewer E T a b (suc m) f =
    let h = fewer E T a b m (λ y l. f y (omega arith)) in
    by_test (is_recv a b (entry_at E m).step)
    (λ r. by_follows (f m (omega arith)) (λ n e. clash (sym r ∙ n a b))
    (λ x xl g p t e. let k = goes_on E x m a b g r in
    let u : count (is_send a b) E x + 1 ≤ count (is_send a b) E m = rw k.0 at (count_up (is_send a b) E x m xl) in
    let n = k.1 in
    rw r (omega arith)))
    (λ r. rw r (omega arith))

-- ---- messages under way on the link from a to b, before and after entry y
module _ (E : List Accepted) (a b y : ℕ) where
  pub stays-under_way : is_send a b (entry_at E y).step ≡ false → is_recv a b (entry_at E y).step ≡ false → under_way E a b (suc y) ≡ under_way E a b y
  stays-under_way s r =
      let z : count (is_recv a b) E y + 0 ≡ count (is_recv a b) E y = omega arith in
      rw (s, r, z, append-nil (those (is_send a b) E y))

  pub sent-under_way : is_send a b (entry_at E y).step ≡ true → is_recv a b (entry_at E y).step ≡ false → count (is_recv a b) E y ≤ count (is_send a b) E y
      → under_way E a b (suc y) ≡ under_way E a b y ++ (entry_at E y ∷ [])
  sent-under_way s r l =
      let z : count (is_recv a b) E y + 0 ≡ count (is_recv a b) E y = omega arith in
      rw (s, r, z) (drop-append-le (count (is_recv a b) E y) (those (is_send a b) E y) _ (omega (arith, those-length (is_send a b) E y)))

  -- the first of them is that with the number of the next receipt
  pub first_under_way : (x : ℕ) → is_recv a b (entry_at E y).step ≡ true → x < y → is_send a b (entry_at E x).step ≡ true → count (is_send a b) E x ≡ count (is_recv a b) E y → under_way E a b y ≡ entry_at E x ∷ under_way E a b (suc y)
  first_under_way x r l sx n =
      let z : count (is_recv a b) E y + 1 ≡ suc (count (is_recv a b) E y) = omega arith in
      let u : count (is_send a b) E x + 1 ≤ count (is_send a b) E y = rw sx at (count_up (is_send a b) E x y l) in
      let e : get_or (those (is_send a b) E y) (count (is_recv a b) E y) (entry_at E x) ≡ entry_at E x = rw (← n) (those_at (is_send a b) E x y l sx (entry_at E x)) in
      rw (recv_no_send a b (entry_at E y).step r, r, z, append-nil (those (is_send a b) E y))
      (drop-cons (those (is_send a b) E y) (count (is_recv a b) E y) (entry_at E x) (omega (arith, those-length (is_send a b) E y))
      ∙ ap (λ (h : Accepted). h ∷ drop (suc (count (is_recv a b) E y)) (those (is_send a b) E y)) e)
