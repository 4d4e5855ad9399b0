-- The invariant of the network, and the two lemmas by which every change keeps it: a station puts items on its links out, or takes the first item of a link
-- in. Assumes nothing.
use Prim.Native.Nat.{ℕ, suc, ◌≤◌}
use mathlib.Core.Path.{◌≡◌, refl, sym, ◌∙◌}
use mathlib.Core.Logic.{◌≢◌}
use mathlib.Core.List.{List, [], ◌∷◌, ◌++◌, append-nil}
use mathlib.Core.Bool.{true, false}
use native.Mathlib.Omega.{arith}
use native.Mathlib.Decide.{ℕ_discrete}
use Rattle.reset.specs.Config.{Config, neighbours}
use Rattle.reset.specs.Receipts.{target, reqs_taken, dones_taken}
use Rattle.reset.proofs.ConfigLaws.{Rules, not_itself}
use Rattle.reset.specs.Clock.{Clock}
use Rattle.reset.specs.State.{normal, Item, Station, State, station_at, link_at, req_seen, done_seen}
use Rattle.reset.proofs.Changes.{Tagged, tags, waiting}
use Rattle.reset.proofs.Flow.{Flow, flow-reqs, flow-dones, flow_up, flow-append, tags-append}
use Rattle.reset.proofs.Cases.{by_dec}

-- The items q of the link from station i, whose record is x, to a station with record y: from what y has taken to what x has put.
abbrev pub Carries : {K : Clock} → ℕ → Station K → List (Item K) → Station K → Type 0
Carries i x q y = Flow y.phase (reqs_taken y i) (dones_taken y i) q (target x) (suc x.phase)

-- Every link carries what its two ends say, and a station in normal has seen every neighbour's done.
pub record Invariant {K : Clock} (c : Config) (s : State K) : Type 0 where
  pub flow : (i j : ℕ) → neighbours c i j ≡ true → Carries i (station_at s i) (link_at s i j) (station_at s j)
  pub seen : (i j : ℕ) → neighbours c i j ≡ true → (station_at s i).mode ≡ normal → done_seen (station_at s i) j ≡ true

-- a neighbour's target is at most one past a station's phase, and its phase at most a station's target
module _ {K : Clock} (c : Config) (s : State K) (v : Invariant c s) (i j : ℕ) (ij : neighbours c i j ≡ true) where
  pub target-near : target (station_at s j) ≤ suc (station_at s i).phase
  target-near = let k = flow-dones _ _ _ (link_at s i j) _ _ (v.flow i j ij) in omega arith

  pub phase-near : (station_at s j).phase ≤ target (station_at s i)
  phase-near = let k = flow-reqs _ _ _ (link_at s i j) _ _ (v.flow i j ij) in omega arith

-- A change that keeps the invariant and moves no message.
pub record Maintained {K : Clock} (c : Config) (s s' : State K) : Type 0 where
  pub inv : Invariant c s'
  pub unmoved : (a b : ℕ) → neighbours c a b ≡ true → waiting s' a b ≡ waiting s a b

pub kept_still : {K : Clock} {c : Config} {s : State K} → Invariant c s → Maintained c s s
kept_still v = record { inv = v; unmoved = λ a b h. refl }

pub kept_then : {K : Clock} (c : Config) {s s' s'' : State K} → Maintained c s s' → Maintained c s' s'' → Maintained c s s''
kept_then c k l = record { inv = l.inv; unmoved = λ a b h. l.unmoved a b h ∙ k.unmoved a b h }

-- ---- the sending end: station i changes its record and puts `out b` on its link to b, for every neighbour b at once
pub record Puts {K : Clock} (c : Config) (i : ℕ) (s s' : State K) (out : ℕ → List (Item K)) : Type 0 where
  pub others : (k : ℕ) → k ≢ i → station_at s' k ≡ station_at s k
  pub kept : (a b : ℕ) → a ≢ i → link_at s' a b ≡ link_at s a b
  pub onto : (b : ℕ) → neighbours c i b ≡ true → link_at s' i b ≡ link_at s i b ++ out b
  pub apart : (b : ℕ) → neighbours c i b ≡ false → link_at s' i b ≡ link_at s i b
  pub up : (station_at s i).phase ≤ (station_at s' i).phase
  pub head-reqs : (j : ℕ) → neighbours c i j ≡ true → reqs_taken (station_at s' i) j ≡ reqs_taken (station_at s i) j
  pub head-dones : (j : ℕ) → neighbours c i j ≡ true → dones_taken (station_at s' i) j ≡ dones_taken (station_at s i) j
  pub tail : (b : ℕ) → neighbours c i b ≡ true
      → Flow (station_at s b).phase (target (station_at s i)) (suc (station_at s i).phase) (out b) (target (station_at s' i)) (suc (station_at s' i).phase)
  pub seen' : (j : ℕ) → neighbours c i j ≡ true → (station_at s' i).mode ≡ normal → done_seen (station_at s' i) j ≡ true

module _ {K : Clock} (c : Config) (u : Rules c) (i : ℕ) (s s' : State K) (out : ℕ → List (Item K)) (v : Invariant c s) (m : Puts c i s s' out) where
  puts_flow : (a b : ℕ) → neighbours c a b ≡ true → Carries a (station_at s' a) (link_at s' a b) (station_at s' b)
  puts_flow a b h =
      by_dec (ℕ_discrete a i)
      (λ p. by_dec (ℕ_discrete b i) (λ q. absurd (u.loopless i (rw (p, q) at h)))
      (λ q. let k : neighbours c i b ≡ true = rw p at h in
      rw (p, m.others b q, m.onto b k) (flow-append _ _ _ (link_at s i b) (out b) _ _ _ _ (v.flow i b k) (m.tail b k))))
      (λ p. by_dec (ℕ_discrete b i)
      (λ q. let k : neighbours c a i ≡ true = rw q at h in
      let ia = u.both_ways a i k in
      rw (q, m.others a p, m.kept a i p, m.head-reqs a ia, m.head-dones a ia) (flow_up _ _ _ _ (link_at s a i) _ _ m.up (v.flow a i k)))
      (λ q. rw (m.others a p, m.others b q, m.kept a b p) (v.flow a b h)))

  pub puts_keeps : Invariant c s'
  puts_keeps =
      record {
        flow = puts_flow;
        seen = λ a b h k. by_dec (ℕ_discrete a i)
            (λ p. rw p (m.seen' b (rw p at h) (rw p at k)))
            (λ p. rw (m.others a p) (v.seen a b h (rw (m.others a p) at k)));
      }

  -- the messages put, behind those that wait; no other link's messages move
  pub puts_waiting : (b : ℕ) → neighbours c i b ≡ true → b ≢ i → waiting s' i b ≡ waiting s i b ++ tags (target (station_at s i)) (out b)
  puts_waiting b h n =
      rw (m.others b n, m.onto b h)
      (tags-append _ _ _ (link_at s i b) (out b) _ _ (v.flow i b h))

  pub puts_still : (a b : ℕ) → neighbours c a b ≡ true → a ≢ i → Dec (b ≡ i) → waiting s' a b ≡ waiting s a b
  puts_still a b h n (yes p) = rw (p, m.kept a i n, m.head-reqs a (u.both_ways a i (rw p at h)))
  puts_still a b h n (no p) = rw (m.kept a b n, m.others b p)

  pub puts_quiet : ((b : ℕ) → tags (target (station_at s i)) (out b) ≡ []) → Maintained c s s'
  puts_quiet z =
      record {
        inv = puts_keeps;
        unmoved = λ a b h. by_dec (ℕ_discrete a i)
            (λ p. rw p (puts_waiting b (rw p at h) (λ e. u.loopless i (rw (p, e) at h)) ∙ rw (z b) (append-nil (waiting s i b))))
            (λ p. puts_still a b h p (ℕ_discrete b i));
      }

-- ---- the receiving end: station i takes the first item x off its link from j, and of its record what the links read changes only at j
pub record TakesOff {K : Clock} (c : Config) (i j : ℕ) (s s' : State K) (x : Item K) (q : List (Item K)) (taken : List (Tagged K)) : Type 0 where
  pub held : link_at s j i ≡ x ∷ q
  pub left : link_at s' j i ≡ q
  pub others : (k : ℕ) → k ≢ i → station_at s' k ≡ station_at s k
  pub rows : (a b : ℕ) → a ≢ j → link_at s' a b ≡ link_at s a b
  pub cols : (b : ℕ) → b ≢ i → link_at s' j b ≡ link_at s j b
  pub mode_same : (station_at s' i).mode ≡ (station_at s i).mode
  pub phase_same : (station_at s' i).phase ≡ (station_at s i).phase
  pub req-other : (k : ℕ) → k ≢ j → req_seen (station_at s' i) k ≡ req_seen (station_at s i) k
  pub done-other : (k : ℕ) → k ≢ j → done_seen (station_at s' i) k ≡ done_seen (station_at s i) k
  pub done_more : (k : ℕ) → done_seen (station_at s i) k ≡ true → done_seen (station_at s' i) k ≡ true
  pub messages : Carries j (station_at s j) (x ∷ q) (station_at s i) → tags (reqs_taken (station_at s i) j) (x ∷ q) ≡ taken ++ tags (reqs_taken (station_at s' i) j) q
  pub moved : Carries j (station_at s j) (x ∷ q) (station_at s i)
      → Flow (station_at s i).phase (reqs_taken (station_at s' i) j) (dones_taken (station_at s' i) j) q (target (station_at s j)) (suc (station_at s j).phase)

module _ {K : Clock} (c : Config) (u : Rules c) (i j : ℕ) (ij : neighbours c i j ≡ true) (s s' : State K) (x : Item K) (q : List (Item K))
    (taken : List (Tagged K)) (v : Invariant c s) (m : TakesOff c i j s s' x q taken) where
  ji : neighbours c j i ≡ true
  ji = u.both_ways i j ij

  takes_link : (a b : ℕ) → b ≢ i → link_at s' a b ≡ link_at s a b
  takes_link a b n = by_dec (ℕ_discrete a j) (λ p. rw p (m.cols b n)) (λ p. m.rows a b p)

  takes_flow : (a b : ℕ) → neighbours c a b ≡ true → Carries a (station_at s' a) (link_at s' a b) (station_at s' b)
  takes_flow a b h =
      by_dec (ℕ_discrete b i)
      (λ r. by_dec (ℕ_discrete a i) (λ p. absurd (u.loopless i (rw (p, r) at h)))
      (λ p. by_dec (ℕ_discrete a j)
      (λ e. rw (r, e, m.left, m.others j (not_itself c u i j ij), m.phase_same) (rw m.phase_same at (m.moved (rw m.held at (v.flow j i ji)))))
      (λ e. rw (r, m.others a p, m.rows a i e, m.req-other a e, m.done-other a e, m.mode_same, m.phase_same) (v.flow a i (rw r at h)))))
      (λ r. by_dec (ℕ_discrete a i)
      (λ p. rw (p, m.others b r, m.rows i b (λ e. not_itself c u i j ij (sym e)), m.mode_same, m.phase_same) (v.flow i b (rw p at h)))
      (λ p. rw (m.others a p, m.others b r, takes_link a b r) (v.flow a b h)))

  pub takes_keeps : Invariant c s'
  takes_keeps =
      record {
        flow = takes_flow;
        seen = λ a b h k. by_dec (ℕ_discrete a i)
            (λ p. rw p (m.done_more b (v.seen i b (rw p at h) (sym m.mode_same ∙ (rw p at k)))))
            (λ p. rw (m.others a p) (v.seen a b h (rw (m.others a p) at k)));
      }

  -- the message taken was the first; no other link's messages move
  pub takes_waiting : waiting s j i ≡ taken ++ waiting s' j i
  takes_waiting = rw (m.held, m.left) (m.messages (rw m.held at (v.flow j i ji)))

  pub takes_still : (a b : ℕ) → neighbours c a b ≡ true → Dec (b ≡ i) → (a ≡ j → b ≡ i → ⊥) → waiting s' a b ≡ waiting s a b
  takes_still a b h (yes p) n = rw (p, m.rows a i (λ e. n e p), m.req-other a (λ e. n e p), m.phase_same)
  takes_still a b h (no p) n = rw (m.others b p, takes_link a b p)
