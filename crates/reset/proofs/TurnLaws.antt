-- After `turn` no reset rule applies, from any state: three at most ever apply in a row. Assumes nothing.
use Prim.Native.Nat.{ℕ, zero, suc}
use mathlib.Core.Path.{◌≡◌, refl, sym, ap, ◌∙◌}
use mathlib.Core.Logic.{◌≢◌}
use mathlib.Core.Bool.{Bool, true, false, not, ◌&&◌, ◌||◌, and-false}
use Rattle.codec.specs.Every.{every, some}
use Rattle.reset.specs.Config.{Config, neighbours}
use Rattle.reset.specs.Clock.{Clock}
use Rattle.reset.specs.State.{Mode, normal, mute, stand_by, Station, State, station_at, req_seen, done_seen}
use Rattle.reset.specs.Steps.{every_neighbour, some_neighbour, begun, renewed, woken, begin_reset, renew, wake, Rule, rule_a, rule_b, rule_c, no_rule, rule_in, rule_of, applied, apply, turn_once, turn}
use Rattle.reset.proofs.Views.{none_at, station-set, station-set-other, station-put_all}
use Rattle.reset.proofs.Cases.{by_test, clash}

-- ---- marks that nobody has
pub some_none : (n : ℕ) (r p : ℕ → Bool) → ((j : ℕ) → p j ≡ false) → some n (λ j. r j && p j) ≡ false
unfolding some
some_none zero r p h = refl
some_none (suc n) r p h = rw (some_none n r p h, h n, and-false)

-- where some j has r and q, not every j that has r has p
every_none : (n : ℕ) (r p q : ℕ → Bool) → ((j : ℕ) → p j ≡ false) → some n (λ j. r j && q j) ≡ true → every n (λ j. not (r j) || p j) ≡ false
unfolding every some
every_none zero r p q h e = sym e
every_none (suc n) r p q h e =
    rw (h n)
    (by_test (some n (λ j. r j && q j)) (λ a. rw (every_none n r p q h a))
    (λ a. by_test (r n) (λ b. rw b (and-false (every n (λ j. not (r j) || p j)))) (λ b. clash (sym (rw (a, b) at e)))))

-- ---- what was tested where a rule applies
abbrev pub Tested : {K : Clock} → Config → ℕ → Station K → Rule → Type 0
Tested c i x rule_a = (x.mode ≡ mute) × (every_neighbour c i (req_seen x) ≡ true)
Tested c i x rule_b = (x.mode ≡ stand_by) × (every_neighbour c i (done_seen x) ≡ true)
Tested c i x rule_c = (x.mode ≡ normal) × (some_neighbour c i (req_seen x) ≡ true)
Tested c i x no_rule = Unit {0}

pub rule_tested : {K : Clock} (c : Config) (i : ℕ) (x : Station K) → Tested c i x (rule_of c i x)
rule_tested c i x = go x.mode refl
  where
    go : (m : Mode) → x.mode ≡ m → Tested c i x (rule_in m (every_neighbour c i (req_seen x)) (every_neighbour c i (done_seen x)) (some_neighbour c i (req_seen x)))
    go mute e = by_test (every_neighbour c i (req_seen x)) (λ q. rw q (e, q)) (λ q. rw q tt)
    go stand_by e = by_test (every_neighbour c i (done_seen x)) (λ q. rw q (e, q)) (λ q. rw q tt)
    go normal e = by_test (some_neighbour c i (req_seen x)) (λ q. rw q (e, q)) (λ q. rw q tt)

-- ---- what a rule does to the record of its station, and to others
abbrev pub next : {K : Clock} → Config → ℕ → Station K → Station K
next c i x = applied x (rule_of c i x)

module _ {K : Clock} (c : Config) (i : ℕ) where
  pub station-apply : (s : State K) (r : Rule) → station_at (apply c i s r) i ≡ applied (station_at s i) r
  unfolding begin_reset renew wake
  station-apply s rule_a = rw (station-put_all, station-set)
  station-apply s rule_b = rw station-set
  station-apply s rule_c = rw (station-put_all, station-set)
  station-apply s no_rule = refl

  pub station-turn_once : (s : State K) → station_at (turn_once c i s) i ≡ next c i (station_at s i)
  unfolding turn_once
  station-turn_once s = station-apply s (rule_of c i (station_at s i))

  station-apply-other : (s : State K) (r : Rule) (k : ℕ) → k ≢ i → station_at (apply c i s r) k ≡ station_at s k
  unfolding begin_reset renew wake
  station-apply-other s rule_a k n = station-put_all c _ i _ k ∙ station-set-other s i _ k n
  station-apply-other s rule_b k n = station-set-other s i _ k n
  station-apply-other s rule_c k n = station-put_all c _ i _ k ∙ station-set-other s i _ k n
  station-apply-other s no_rule k n = refl

  pub station-turn_once-other : (s : State K) (k : ℕ) → k ≢ i → station_at (turn_once c i s) k ≡ station_at s k
  unfolding turn_once
  station-turn_once-other s k n = station-apply-other s (rule_of c i (station_at s i)) k n

  -- ---- how many rules can apply in a row
  again : (x : Station K) → rule_of c i x ≡ no_rule → rule_of c i (next c i x) ≡ no_rule
  again x h = ap (λ (r : Rule). rule_of c i (applied x r)) h ∙ h

  no_req : (x : Station K) → some_neighbour c i (req_seen (renewed x)) ≡ false
  unfolding some_neighbour
  no_req x = some_none 8 (neighbours c i) (req_seen (renewed x)) none_at

  no_done : (x : Station K) → some_neighbour c i (req_seen x) ≡ true → every_neighbour c i (done_seen (renewed (begun x))) ≡ false
  unfolding some_neighbour every_neighbour
  no_done x h = every_none 8 (neighbours c i) (done_seen (renewed (begun x))) (req_seen x) none_at h

  -- after a at most b
  after_a : (x : Station K) → rule_of c i (next c i (renewed x)) ≡ no_rule
  after_a x = by_test (every_neighbour c i (done_seen (renewed x))) (λ h. rw (h, no_req x)) (λ h. rw (h, h))

  -- after c at most a
  after_c : (x : Station K) → some_neighbour c i (req_seen x) ≡ true → rule_of c i (next c i (begun x)) ≡ no_rule
  after_c x e = by_test (every_neighbour c i (req_seen x)) (λ h. rw (h, no_done x e)) (λ h. rw (h, h))

  -- after b at most c and a
  after_b : (x : Station K) → rule_of c i (next c i (next c i (woken x))) ≡ no_rule
  after_b x = by_test (some_neighbour c i (req_seen x)) (λ h. rw h (after_c (woken x) h)) (λ h. rw (h, h, h))

  from : (x : Station K) (r : Rule) → rule_of c i x ≡ r → Tested c i x r → rule_of c i (next c i (next c i (applied x r))) ≡ no_rule
  from x rule_a h t = again (next c i (renewed x)) (after_a x)
  from x rule_b h t = after_b x
  from x rule_c h t = again (next c i (begun x)) (after_c x t.1)
  from x no_rule h t = again (next c i x) (again x h)

  -- none is left
  pub no_rule_left : (s : State K) → rule_of c i (station_at (turn c i s) i) ≡ no_rule
  unfolding turn
  no_rule_left s = rw (station-turn_once, station-turn_once, station-turn_once) (from (station_at s i) _ refl (rule_tested c i (station_at s i)))

  -- so one more turn changes nothing
  pub turn_ends : (s : State K) → turn_once c i (turn c i s) ≡ turn c i s
  unfolding turn_once
  turn_ends s = ap (apply c i (turn c i s)) (no_rule_left s)

  pub station_turn_other : (s : State K) (k : ℕ) → k ≢ i → station_at (turn c i s) k ≡ station_at s k
  unfolding turn
  station_turn_other s k n = station-turn_once-other _ k n ∙ station-turn_once-other _ k n ∙ station-turn_once-other s k n
