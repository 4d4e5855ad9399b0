-- What keeps a network that began as the initial one within its bounds: a station aims at no phase past the last; on a link no more messages are taken or
-- under way than its limit, and where both ends are in one phase no more than were sent; a station's own count is the number of its entries in this phase.
-- With the sum rule and two places more on each link, that is within every bound. Assumes nothing.
use Prim.Native.Nat.{ℕ, suc, ◌+◌, ◌≤◌, ◌<◌}
use mathlib.Core.Path.{◌≡◌, sym, ◌∙◌}
use mathlib.Core.Logic.{◌≢◌}
use mathlib.Core.List.{List, [], ◌∷◌, ◌++◌}
use mathlib.Core.Bool.{true, false, cond}
use native.Mathlib.Omega.{arith}
use native.Mathlib.Decide.{ℕ_discrete}
use lib.Dec.{eqb}
use lib.ListN.{get_or, length}
use borrow.Author.Tests.{eqb-true, eqb-false, le-leb}
use Rattle.codec.specs.Every.{sum}
use Rattle.codec.proofs.SumLaws.{sum_below}
use Rattle.clock.specs.Range.{last_phase}
use Rattle.reset.specs.Reach.{limit}
use Rattle.reset.specs.Config.{Config, neighbours, places, between, network_rules}
use Rattle.reset.specs.Receipts.{target, messages}
use Rattle.reset.proofs.ConfigLaws.{Rules, not_itself, within-sum}
use Rattle.reset.specs.Clock.{vector}
use Rattle.reset.specs.State.{Item, message, reset_req, reset_done, Station, State, station_at, link_at, sent_to}
use Rattle.reset.specs.Steps.{in_bounds}
use Rattle.reset.proofs.Changes.{Tagged}
use Rattle.reset.proofs.ClockRange.{AtMost}
use Rattle.reset.proofs.Flow.{flow-length, messages-append}
use Rattle.reset.proofs.Invariant.{Invariant, target-near, phase-near, Puts, TakesOff}
use Rattle.reset.proofs.Formed.{in_bounds_lem}
use Rattle.reset.proofs.Cases.{by_test, by_dec, clash}

-- ---- a link
-- the counts of each message are at most t
abbrev pub Loads : ℕ → List (Item vector) → Type 0
Loads t [] = Unit {0}
Loads t (message w g ∷ q) = AtMost t w × Loads t q
Loads t (reset_req ∷ q) = Loads t q
Loads t (reset_done ∷ q) = Loads t q

-- A link of limit l with items q. Its sender is in phase r, and has sent k messages in it; its receiver is in phase p, and has taken f in it. Those taken
-- and those under way are at most l; at most k, where both are in one phase; none, where the sender is behind. No load has a count above t.
pub record LinkBook (t l r k p f : ℕ) (q : List (Item vector)) : Type 0 where
  pub most : f + messages q ≤ l
  pub one_phase : r ≡ p → f + messages q ≤ k
  pub behind : r < p → f + messages q ≤ 0
  pub loads : Loads t q

-- the link from a, whose record is x, to b, whose record is y
abbrev pub Carried : Config → ℕ → Station vector → ℕ → Station vector → ℕ → List (Item vector) → Type 0
Carried c a x b y f q = LinkBook c.t (limit c.limits a b) x.phase (sent_to x b) y.phase f q

loads-append : (t : ℕ) (q q' : List (Item vector)) → Loads t q → Loads t q' → Loads t (q ++ q')
loads-append t [] q' h k = k
loads-append t (message w g ∷ q) q' h k = (h.0, loads-append t q q' h.1 k)
loads-append t (reset_req ∷ q) q' h k = loads-append t q q' h k
loads-append t (reset_done ∷ q) q' h k = loads-append t q q' h k

-- more items behind: control items, or a message that the sender has counted, its receiver being in its phase
pub book_control : (t l r k p f : ℕ) (q q' : List (Item vector)) → messages q' ≡ 0 → Loads t q' → LinkBook t l r k p f q → LinkBook t l r k p f (q ++ q')
book_control t l r k p f q q' z w h =
    let e = messages-append q q' in
    record {
      most = let a = h.most in omega arith;
      one_phase = λ s. let a = h.one_phase s in omega arith;
      behind = λ s. let a = h.behind s in omega arith;
      loads = loads-append t q q' h.loads w;
    }

pub book_message : (t l r k p f : ℕ) (q : List (Item vector)) (w : List ℕ) (g : ℕ) → r ≡ p → k < l → AtMost t w → LinkBook t l r k p f q
    → LinkBook t l r (suc k) p f (q ++ (message w g ∷ []))
book_message t l r k p f q w g s b a h =
    let e : messages (q ++ (message w g ∷ [])) ≡ messages q + 1 = messages-append q (message w g ∷ []) in
    let m = h.one_phase s in
    record { most = omega arith; one_phase = λ s. omega arith; behind = λ z. absurd (omega arith); loads = loads-append t q _ h.loads (a, tt) }

-- ---- a station
-- Station i has made `own` own entries, sent so many messages on each link and taken f j from each j, in its phase.
pub record StationBook (c : Config) (i own : ℕ) (sent time : List ℕ) (f : ℕ → ℕ) : Type 0 where
  pub own-within : own ≤ get_or c.allowances i 0
  pub sent-within : (j : ℕ) → get_or sent j 0 ≤ limit c.limits i j
  pub got-within : (j : ℕ) → f j ≤ limit c.limits j i
  pub own-count : get_or time i 0 ≡ own + sum 8 (λ (j : ℕ). get_or sent j 0 + f j)

-- station i, whose record is x
abbrev pub Counted : Config → ℕ → Station vector → (ℕ → ℕ) → Type 0
Counted c i x f = StationBook c i x.own x.sent x.time f

-- by the sum rule its own count is at most t; so all are, where the others are
pub counts-within : (c : Config) → network_rules c ≡ true → (i : ℕ) → i < 8 → (x : Station vector) (f : ℕ → ℕ) → Counted c i x f
    → ((k : ℕ) → k < 8 → k ≢ i → get_or x.time k 0 ≤ c.t) → AtMost c.t x.time
counts-within c r i il x f b o k kl =
    by_dec (ℕ_discrete k i)
    (λ p. let m = sum_below 8 (λ (j : ℕ). get_or x.sent j 0 + f j) (between c.limits i) (λ j l. omega (arith, b.sent-within j, b.got-within j)) in
    rw p (omega (arith, m, b.own-within, b.own-count, within-sum c r i il)))
    (λ p. o k kl p)

-- ---- the books of a network
-- of station i: there are numbers of messages that it has taken from each neighbour in its phase, by which its own count and its links in are in order
pub record Book (c : Config) (s : State vector) (i : ℕ) : Type 0 where
  pub got : ℕ → ℕ
  pub station : Counted c i (station_at s i) got
  pub links : (a : ℕ) → neighbours c i a ≡ true → Carried c a (station_at s a) i (station_at s i) (got a) (link_at s a i)

-- of all: no station aims past the last phase, no count is above t, and where there is no link there is no item
pub record Books (c : Config) (s : State vector) : Type 0 where
  pub targets : (i : ℕ) → i < 8 → target (station_at s i) ≤ last_phase
  pub counts : (i : ℕ) → i < 8 → AtMost c.t (station_at s i).time
  pub unlinked : (a b : ℕ) → neighbours c a b ≡ false → link_at s a b ≡ []
  pub books : (i : ℕ) → i < c.n → Book c s i

-- ---- within bounds
module _ (c : Config) (u : Rules c) (s : State vector) (v : Invariant c s) (w : Books c s) where
  -- at most one reset_req and one reset_done lie on a link, beside its messages
  link-within : (a b : ℕ) → length (link_at s a b) ≤ places c a b
  unfolding places
  link-within a b =
      by_test (neighbours c a b)
      (λ h. let ba = u.both_ways a b h in
      let m = ((w.books b (u.inside a b h)).links a ba).most in
      rw h (omega (arith, m, flow-length _ _ _ (link_at s a b) _ _ (v.flow a b h), target-near c s v b a ba, phase-near c s v b a ba)))
      (λ h. rw (h, w.unlinked a b h) (omega arith))

  pub books-bounds : in_bounds c s ≡ true
  books-bounds =
      in_bounds_lem c s
      (record {
        phases = λ i l. le-leb (station_at s i).phase last_phase (omega (arith, w.targets i l));
        counts = λ i k l m. le-leb _ _ (w.counts i l k m);
        links = λ a b l m. le-leb _ _ (link-within a b);
      })

-- ---- a change at station i: its record is x after it, its links in hold `lin`, its links out `lout`, and nothing else changes
pub record Change (c : Config) (i : ℕ) (s s' : State vector) (x : Station vector) (lin lout : ℕ → List (Item vector)) : Type 0 where
  pub here : station_at s' i ≡ x
  pub others : (k : ℕ) → k ≢ i → station_at s' k ≡ station_at s k
  pub ins : (a : ℕ) → neighbours c i a ≡ true → link_at s' a i ≡ lin a
  pub outs : (b : ℕ) → neighbours c i b ≡ true → link_at s' i b ≡ lout b
  pub elses : (a b : ℕ) → a ≢ i → b ≢ i → link_at s' a b ≡ link_at s a b
  pub fars : (a b : ℕ) → neighbours c a b ≡ false → link_at s' a b ≡ link_at s a b

pub change_puts : (c : Config) → Rules c → (i : ℕ) (s s' : State vector) (out : ℕ → List (Item vector)) → Puts c i s s' out
    → (x : Station vector) → station_at s' i ≡ x → Change c i s s' x (λ a. link_at s a i) (λ b. link_at s i b ++ out b)
change_puts c u i s s' out m x e =
    record {
      here = e;
      others = m.others;
      ins = λ a h. m.kept a i (not_itself c u i a h);
      outs = m.onto;
      elses = λ a b n k. m.kept a b n;
      fars = λ a b h. by_dec (ℕ_discrete a i) (λ p. rw p (m.apart b (rw p at h))) (λ p. m.kept a b p);
    }

pub change_takes : (c : Config) → Rules c → (i j : ℕ) → neighbours c i j ≡ true → (s s' : State vector) (y : Item vector) (q : List (Item vector)) (l : List (Tagged vector))
    → TakesOff c i j s s' y q l → (x : Station vector) → station_at s' i ≡ x → Change c i s s' x (λ a. cond (eqb j a) q (link_at s a i)) (λ b. link_at s i b)
change_takes c u i j ij s s' y q l m x e =
    record {
      here = e;
      others = m.others;
      ins = λ a h. by_test (eqb j a) (λ e. rw (e, ← eqb-true j a e) m.left) (λ e. rw e (m.rows a i (λ p. eqb-false j a e (sym p))));
      outs = λ b h. m.rows i b (λ e. not_itself c u i j ij (sym e));
      elses = λ a b n k. other a b k;
      fars = λ a b h. by_dec (ℕ_discrete b i)
          (λ p. m.rows a b (λ e. clash (sym (u.both_ways i j ij) ∙ (rw (e, p) at h))))
          (λ p. other a b p);
    }
  where
    other : (a b : ℕ) → b ≢ i → link_at s' a b ≡ link_at s a b
    other a b n = by_dec (ℕ_discrete a j) (λ p. rw p (m.cols b n)) (λ p. m.rows a b p)

-- it keeps the books, where it keeps those of its station and of its links
module _ (c : Config) (u : Rules c) (i : ℕ) (s s' : State vector) (x : Station vector) (lin lout : ℕ → List (Item vector)) (m : Change c i s s' x lin lout) (w : Books c s)
    (aims : target x ≤ last_phase) (counts : AtMost c.t x.time) (f : ℕ → ℕ) (station : Counted c i x f)
    (ins : (a : ℕ) → neighbours c i a ≡ true → Carried c a (station_at s a) i x (f a) (lin a))
    (outs : (b : ℕ) → neighbours c i b ≡ true → (g : ℕ) → Carried c i (station_at s i) b (station_at s b) g (link_at s i b) → Carried c i x b (station_at s b) g (lout b)) where
  book_here : Book c s' i
  book_here =
      record {
        got = f;
        station = rw m.here station;
        links = λ a h. rw (m.here, m.others a (not_itself c u i a h), m.ins a h) (ins a h);
      }

  book_there : (b : ℕ) → b ≢ i → Book c s b → Book c s' b
  book_there b n k =
      record {
        got = k.got;
        station = rw (m.others b n) k.station;
        links = λ a h. by_dec (ℕ_discrete a i)
            (λ p. let bi : neighbours c b i ≡ true = rw p at h in
            let ib = u.both_ways b i bi in
            rw (p, m.here, m.others b n, m.outs b ib) (outs b ib (k.got i) (k.links i bi)))
            (λ p. rw (m.others b n, m.others a p, m.elses a b p n) (k.links a h));
      }

  pub changed : Books c s'
  changed =
      record {
        targets = λ k l. by_dec (ℕ_discrete k i) (λ p. rw (p, m.here) aims) (λ p. rw (m.others k p) (w.targets k l));
        counts = λ k l. by_dec (ℕ_discrete k i) (λ p. rw (p, m.here) counts) (λ p. rw (m.others k p) (w.counts k l));
        unlinked = λ a b h. m.fars a b h ∙ w.unlinked a b h;
        books = λ k l. by_dec (ℕ_discrete k i) (λ p. rw p book_here) (λ p. book_there k p (w.books k l));
      }
