-- After a list of steps from an initial network, rest says whether all that was sent has been received. Assumes nothing.
use Prim.Native.Nat.{ℕ, ◌+◌, ◌-◌, ◌≤◌, ◌<◌}
use mathlib.Core.Path.{◌≡◌, sym, ap, ◌∙◌}
use mathlib.Core.List.{List, []}
use mathlib.Core.Bool.{true, false}
use native.Mathlib.Omega.{arith}
use native.Mathlib.Decide.{dec_lt}
use lib.ListN.{length, length-drop, length-map}
use Rattle.reset.specs.Config.{Config, neighbours, well_made, network_rules}
use Rattle.reset.proofs.ConfigLaws.{Rules, rules, neighbour-small}
use Rattle.reset.specs.Clock.{vector}
use Rattle.reset.specs.State.{State, link_at}
use Rattle.reset.specs.Steps.{Step}
use Rattle.reset.specs.Network.{initial, log, run, stations_quiescent}
use Rattle.reset.proofs.Changes.{waiting}
use Rattle.reset.proofs.Views.{none_long}
use Rattle.reset.proofs.StepLaws.{run-bounded}
use Rattle.reset.proofs.Coherent.{initial-coherent, run-coherent}
use Rattle.reset.proofs.ClockRange.{vector-range}
use Rattle.reset.proofs.Formed.{initial-well_formed, formed-bounds, in_bounds_lem}
use Rattle.reset.proofs.RestLaws.{quiescent_parts, quiescent_of, each_empty, all_empty, unlinked-empty, none_waiting}
use Rattle.reset.proofs.Cases.{by_test, by_dec}
use Rattle.causality.specs.HappenedBefore.{Accepted, accepted, is_send, is_recv, count}
use Rattle.causality.specs.Rest.{AllReceived, RestTells}
use Rattle.causality.proofs.Trace.{those, under_way}
use Rattle.causality.proofs.TraceLaws.{count_up, those-length, those_nth, goes_from}
use Rattle.causality.proofs.History.{tag_of, run-history}

-- ---- all received, by counting: on each link as many were received as were sent
module _ (E : List Accepted) where
  counted-received : ((a b : ℕ) → count (is_send a b) E (length E) ≤ count (is_recv a b) E (length E)) → AllReceived E
  counted-received h x a b l s =
      let u : count (is_send a b) E x + 1 ≤ count (is_send a b) E (length E) = rw s at (count_up (is_send a b) E x (length E) l) in
      let (y, yl, r, e) = those_nth (is_recv a b) E (length E) (count (is_send a b) E x) (omega (arith, h a b)) in
      (y, record { a = a; b = b; x_in = l; y_in = yl; sent = s; received = r; same_number = sym e })

  received-counted : AllReceived E → (a b : ℕ) → count (is_send a b) E (length E) ≤ count (is_recv a b) E (length E)
  received-counted h a b =
      by_dec (dec_lt (count (is_recv a b) E (length E)) (count (is_send a b) E (length E)))
      (λ l. let (x, xl, s, e) = those_nth (is_send a b) E (length E) (count (is_recv a b) E (length E)) l in
      let (y, g) = h x a b xl s in
      let (r, n) = goes_from E x y a b g s in
      let u : count (is_recv a b) E y + 1 ≤ count (is_recv a b) E (length E) = rw r at (count_up (is_recv a b) E y (length E) g.y_in) in
      absurd (omega arith))
      (λ l. omega arith)

-- ---- the links after a list of steps, and the messages under way
module _ (c : Config) (m : well_made c ≡ true) (r : network_rules c ≡ true) (ps : List Step) where
  abbrev s : State vector
  s = run c (initial vector c) ps

  abbrev E : List Accepted
  E = accepted (log c (initial vector c) ps)

  u : Rules c
  u = rules c m r

  -- those sent and not received wait on their link
  waiting-long : (a b : ℕ) → neighbours c a b ≡ true → length (waiting s a b) ≡ count (is_send a b) E (length E) - count (is_recv a b) E (length E)
  waiting-long a b n =
      ap length (sym ((run-history c u ps).links a b n)) ∙ length-map (under_way E a b (length E)) tag_of
      ∙ length-drop (count (is_recv a b) E (length E)) (those (is_send a b) E (length E)) ∙ rw (those-length (is_send a b) E (length E))

  none_sent : (a b : ℕ) → neighbours c a b ≡ false → count (is_send a b) E (length E) ≡ 0
  none_sent a b n = sym (those-length (is_send a b) E (length E)) ∙ ap length ((run-history c u ps).unlinked a b n)

  -- an empty link: all that was sent there is received
  empty-counted : ((i j : ℕ) → i < 8 → j < 8 → link_at s i j ≡ []) → (a b : ℕ) → count (is_send a b) E (length E) ≤ count (is_recv a b) E (length E)
  empty-counted e a b =
      by_test (neighbours c a b)
      (λ n. let z : waiting s a b ≡ [] = rw (e a b (neighbour-small c u b a (u.both_ways a b n)) (neighbour-small c u a b n)) in
      omega (arith, ap length z, waiting-long a b n))
      (λ n. omega (arith, none_sent a b n))

  -- and all received: each link is empty, where all are normal in one phase
  received-empty : stations_quiescent c s ≡ true → AllReceived E → (i j : ℕ) → i < 8 → j < 8 → link_at s i j ≡ []
  received-empty w h i j il jl =
      by_test (neighbours c i j)
      (λ n. none_waiting c s u (run-coherent c u (initial vector c) (initial-coherent c u) ps) w i j n
      (none_long _ (omega (arith, waiting-long i j n, received-counted E h i j))))
      (unlinked-empty c s (run-bounded c (initial vector c) (in_bounds_lem c _ (formed-bounds vector-range c _ (initial-well_formed vector-range c m r))) ps) i j il jl)

pub rest-tells : RestTells
rest-tells c m r ps = (
  λ h. let p = quiescent_parts c _ h in (p.0, counted-received _ (empty-counted c m r ps (each_empty c _ p.1))),
  λ h. quiescent_of c _ h.0 (all_empty c _ (received-empty c m r ps h.0 h.1)),
)
