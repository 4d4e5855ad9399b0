-- The tests of a send are those of the network's step. Assumes nothing.
use Prim.Native.Nat.{ℕ, ◌+◌, ◌<◌}
use mathlib.Core.Path.{◌≡◌, refl, sym, ◌∙◌}
use mathlib.Core.Bool.{Bool, true, false, cond}
use native.Mathlib.Omega.{arith}
use lib.Dec.{leb}
use lib.ListN.{length, get_or}
use borrow.Author.Tests.{leb-true, leb-false}
use Rattle.std.specs.Prelude.{Result, Ok, Err}
use Rattle.refusals.specs.declared.Refusal.{Refusal}
use Rattle.refusals.specs.Numbers.{number_of, told}
use Rattle.step_parts.proofs.Refusals.{number-some}
use Rattle.reset.specs.Reach.{limit}
use Rattle.reset.specs.Config.{Config, is_station, neighbours, limit_at, places}
use Rattle.reset.specs.Clock.{vector}
use Rattle.reset.specs.State.{Station, State, station_at, link_at, done_seen, sent_to}
use Rattle.reset.specs.Steps.{send, refuse, may_send, do_send, step}
use Rattle.reset.specs.WellFormed.{well_formed}
use Rattle.step_outcomes.proofs.Outcome.{send_forbidden, send_used_up, send-full, send_no_room, send-done}
use Rattle.enter_send.specs.Sending.{send_refusal}

module _ (c : Config) (s : State vector) (w : well_formed c s ≡ true) (i j g : ℕ) (h : is_station c i ≡ true) (n : neighbours c i j ≡ true) where
  abbrev x : Station vector
  x = station_at s i

  abbrev most : ℕ
  most = limit c.limits i j

  abbrev held : ℕ
  held = length (link_at s i j)

  size : most + 2 ≡ places c i j
  unfolding places
  size = rw n

  pub record Accepted : Type 0 where
    pub done : step c s (send i j g) ≡ do_send i j g s
    pub count : get_or (station_at s i).time i 0 < c.t
    pub sent : sent_to (station_at s i) j < limit c.limits i j
    pub room : length (link_at s i j) < limit c.limits i j + 2

  -- what the tests say
  data Sent : ℕ → Type 0 where
    no : {k : ℕ} → (k ≡ 0 → ⊥) → step c s (send i j g) ≡ refuse s k → Sent k
    yes : Accepted → Sent 0

  decide : (m u f r : Bool) → may_send x.mode (done_seen x j) ≡ m → leb most (sent_to x j) ≡ u → leb c.t (get_or x.time i 0) ≡ f → leb (most + 2) held ≡ r
      → Sent (cond m (cond u 6 (cond f 2 (cond r 2 0))) 5)
  unfolding limit_at
  decide false u f r p q v e = no {k = 5} (λ z. omega arith) (send_forbidden c s w i j g h n p)
  decide true true f r p q v e = no {k = 6} (λ z. omega arith) (send_used_up c s w i j g h n p (leb-true _ _ q))
  decide true false true r p q v e = no {k = 2} (λ z. omega arith) (send-full c s w i j g h n p (leb-false _ _ q) (leb-true _ _ v))
  decide true false false true p q v e =
      no {k = 2} (λ z. omega arith) (send_no_room c s w i j g h n p (leb-false _ _ q) (leb-false _ _ v) (omega (arith, size, leb-true (most + 2) held e)))
  decide true false false false p q v e =
      let r = leb-false (most + 2) held e in
      yes (record { done = send-done c s w i j g h n p (leb-false _ _ q) (leb-false _ _ v) (omega (arith, size)); count = leb-false _ _ v; sent = leb-false _ _ q; room = r })

  sends : Sent (send_refusal x c.t most held i j)
  unfolding send_refusal
  sends = decide _ _ _ _ refl refl refl refl

  by_no : {k : ℕ} → Sent k → (k ≡ 0 → ⊥) → step c s (send i j g) ≡ refuse s k
  by_no (no f q) z = q
  by_no (yes q) z = absurd (z refl)

  by_yes : {k : ℕ} → Sent k → k ≡ 0 → Accepted
  by_yes (no f q) z = absurd (f z)
  by_yes (yes q) z = q

  module _ (r : Result (Unit {0}) Refusal) (e : told r ≡ send_refusal (station_at s i) c.t (limit c.limits i j) (length (link_at s i j)) i j) where
    -- a refusal is the step's, and with none the step is done
    pub send-refused : (x : Refusal) → r ≡ Err x → step c s (send i j g) ≡ refuse s (number_of x)
    send-refused x z = let k = rw z at e in rw k (by_no sends (λ q. number-some x (k ∙ q)))

    pub send-accepted : (x : Unit {0}) → r ≡ Ok x → Accepted
    send-accepted x z = by_yes sends (sym (rw z at e))
