-- Each change keeps the books: begin and the reset rules, own entries, sends, and receipts of messages and of control items. Assumes nothing.
use Prim.Native.Nat.{ℕ, ◌+◌, ◌≤◌, ◌<◌}
use mathlib.Core.Path.{◌≡◌, refl, sym}
use mathlib.Core.List.{List, [], ◌∷◌, ◌++◌, append-nil}
use mathlib.Core.Bool.{Bool, true, false, cond, ◌&&◌}
use native.Mathlib.Omega.{arith}
use native.Mathlib.Decide.{ℕ_discrete}
use lib.Dec.{eqb}
use borrow.Author.Tests.{eq-eqb, ne_eqb, eqb-true, eqb-false}
use Rattle.codec.proofs.PutLaws.{put_same, put_other}
use Rattle.codec.proofs.EveryLaws.{both}
use Rattle.codec.proofs.SumLaws.{sum-zero, sum_grows}
use Rattle.clock.specs.Timestamp.{tick, merged}
use Rattle.clock.specs.Range.{last_phase}
use Rattle.clock.proofs.MergeLaws.{merged-most}
use Rattle.codec.proofs.SomeLaws.{some_holds}
use Rattle.reset.specs.Reach.{limit}
use Rattle.reset.specs.Config.{Config, neighbours, limit_at, allowance_at, network_rules}
use Rattle.reset.specs.Receipts.{muted, messages}
use Rattle.reset.proofs.ConfigLaws.{Rules, neighbour-small}
use Rattle.reset.specs.Clock.{vector}
use Rattle.reset.specs.State.{normal, mute, stand_by, Item, message, reset_req, reset_done, Station, State, station_at, link_at, req_seen, done_seen, sent_to, set_station, set_link}
use Rattle.reset.specs.Steps.{every_neighbour, some_neighbour, begun, renewed, woken, begin_reset, renew, wake, Rule, rule_a, rule_b, rule_c, no_rule, rule_of, apply, turn_once, turn, entered, sending, may_send, do_send, receiving, do_receive}
use Rattle.reset.proofs.Views.{zeros_at, station-set, station-set_link, station-put_all}
use Rattle.reset.proofs.TurnLaws.{Tested, rule_tested}
use Rattle.reset.proofs.Changes.{Tagged}
use Rattle.reset.proofs.ClockRange.{AtMost}
use Rattle.reset.proofs.Flow.{flow-reqs, flow-past}
use Rattle.reset.proofs.Invariant.{Invariant, TakesOff}
use Rattle.reset.proofs.Keeps.{every_neighbour_at, puts_begin, puts_renew, puts_wake, turn_once_keeps, puts_enter, one_phase, puts_send, takes_message}
use Rattle.reset.proofs.Books.{Loads, Carried, book_control, book_message, Counted, counts-within, Book, Books, change_puts, change_takes, changed}
use Rattle.reset.proofs.Cases.{by_test, by_dec}

-- a station is one of the eight
low : (c : Config) → Rules c → (i : ℕ) → i < c.n → i < 8
low c u i l = omega (arith, u.small)

-- ---- begin and the reset rules
module _ (c : Config) (u : Rules c) (i : ℕ) (il : i < c.n) (s : State vector) (v : Invariant c s) (w : Books c s) where
  -- in a phase that has a next one
  pub begin_books : (station_at s i).mode ≡ normal → (station_at s i).phase < last_phase → Books c (begin_reset c i s)
  unfolding begin_reset
  begin_books h l =
      let k = w.books i il in
      let x = begun (station_at s i) in
      changed c u i s _ x _ _ (change_puts c u i s _ _ (puts_begin c u i s h v) x (rw (station-put_all, station-set))) w
      (omega arith) (w.counts i (low c u i il)) k.got k.station k.links
      (λ b h g r. book_control _ _ _ _ _ _ (link_at s i b) (reset_req ∷ []) refl tt r)

  -- rule a: no message is left on the links in
  renew-books : (station_at s i).mode ≡ mute → every_neighbour c i (req_seen (station_at s i)) ≡ true → Books c (renew c i s)
  unfolding renew
  renew-books h q =
      let k = w.books i il in
      let x = renewed (station_at s i) in
      let a : (station_at s i).phase + 1 ≤ last_phase = rw h at (w.targets i (low c u i il)) in
      changed c u i s _ x _ _ (change_puts c u i s _ _ (puts_renew c u i s h q) x (rw (station-put_all, station-set))) w
      (omega arith) (λ d dl. rw zeros_at (omega arith)) (λ j. 0)
      (record {
        own-within = omega arith;
        sent-within = λ j. rw zeros_at (omega arith);
        got-within = λ j. omega arith;
        own-count = omega (arith, zeros_at i, sum-zero 8 (λ (j : ℕ). sent_to x j + 0) (λ j l. rw zeros_at));
      })
      (λ b h. let ib = u.both_ways i b h in
      let z = flow-past _ _ _ (link_at s b i) _ _ (rw (every_neighbour_at c u i (req_seen (station_at s i)) q b h) (omega arith)) (v.flow b i ib) in
      record { most = omega arith; one_phase = λ p. omega arith; behind = λ p. omega arith; loads = (k.links b h).loads })
      (λ b h g r. book_control _ _ _ _ _ _ (link_at s i b) (reset_done ∷ []) refl tt
      (record {
        most = r.most;
        one_phase = λ p. rw zeros_at (r.behind (omega arith));
        behind = λ p. r.behind (omega arith);
        loads = r.loads;
      }))

  -- rule b
  wake-books : (station_at s i).mode ≡ stand_by → every_neighbour c i (done_seen (station_at s i)) ≡ true → Books c (wake i s)
  unfolding wake
  wake-books h q =
      let k = w.books i il in
      let x = woken (station_at s i) in
      let a : (station_at s i).phase + muted (station_at s i).mode ≤ last_phase = w.targets i (low c u i il) in
      changed c u i s _ x _ _ (change_puts c u i s _ _ (puts_wake c u i s h q) x (rw station-set)) w
      (omega arith) (w.counts i (low c u i il)) k.got k.station k.links
      (λ b h g r. book_control _ _ _ _ _ _ (link_at s i b) [] refl tt r)

  -- rule c: the neighbour whose req is seen aims at the next phase, which is none past the last
  next_phase : some_neighbour c i (req_seen (station_at s i)) ≡ true → (station_at s i).phase < last_phase
  unfolding some_neighbour
  next_phase h =
      let t = some_holds 8 (λ (j : ℕ). neighbours c i j && req_seen (station_at s i) j) h in
      let j = t.0 in
      let p = both (neighbours c i j) _ t.2 in
      let f = rw p.1 at (flow-reqs _ _ _ (link_at s j i) _ _ (v.flow j i (u.both_ways i j p.0))) in
      omega (arith, f, w.targets j t.1)

  rule_books : (r : Rule) → Tested c i (station_at s i) r → Books c (apply c i s r)
  rule_books rule_a t = renew-books t.0 t.1
  rule_books rule_b t = wake-books t.0 t.1
  rule_books rule_c t = begin_books t.0 (next_phase t.1)
  rule_books no_rule t = w

  turn_once-books : Books c (turn_once c i s)
  unfolding turn_once
  turn_once-books = rule_books (rule_of c i (station_at s i)) (rule_tested c i (station_at s i))

pub turn_books : (c : Config) → Rules c → (i : ℕ) → i < c.n → (s : State vector) → Invariant c s → Books c s → Books c (turn c i s)
unfolding turn
turn_books c u i il s v w =
    let v₁ = (turn_once_keeps c u i s v).inv in
    let v₂ = (turn_once_keeps c u i _ v₁).inv in
    turn_once-books c u i il _ v₂ (turn_once-books c u i il _ v₁ (turn_once-books c u i il s v w))

-- ---- entries
module _ (c : Config) (u : Rules c) (r : network_rules c ≡ true) (i : ℕ) (il : i < c.n) (s : State vector) (v : Invariant c s) (w : Books c s) where
  pub enter-books : (station_at s i).own < allowance_at c (station_at s i).phase i → Books c (set_station s i (entered i (station_at s i)))
  unfolding allowance_at
  enter-books l =
      let k = w.books i il in
      let o = k.station in
      let x = entered i (station_at s i) in
      let b : Counted c i x k.got = record { own-within = l; sent-within = o.sent-within; got-within = o.got-within; own-count = rw put_same (omega (arith, o.own-count)) } in
      changed c u i s _ x _ _ (change_puts c u i s _ _ (puts_enter c u s v i) x (rw station-set)) w
      (w.targets i (low c u i il))
      (counts-within c r i (low c u i il) x k.got b (λ d dl n. rw (put_other 0 (station_at s i).time i d _ n) (w.counts i (low c u i il) d dl)))
      k.got b k.links
      (λ b h g z. book_control _ _ _ _ _ _ (link_at s i b) [] refl tt z)

  module _ (j : ℕ) (ij : neighbours c i j ≡ true) where
    pub send-books : (g : ℕ) → may_send (station_at s i).mode (done_seen (station_at s i) j) ≡ true → sent_to (station_at s i) j < limit_at c (station_at s i).phase i j
        → Books c (do_send i j g s).after
    unfolding limit_at
    send-books g may l =
        let k = w.books i il in
        let o = k.station in
        let x = sending i j (station_at s i) in
        let e = sum_grows 8 (λ (m : ℕ). sent_to (station_at s i) m + k.got m) (λ (m : ℕ). sent_to x m + k.got m) j (neighbour-small c u i j ij)
        (rw put_same (omega arith)) (λ m n. rw (put_other 0 (station_at s i).sent j m _ n)) in
        let b : Counted c i x k.got
        = record { own-within = o.own-within; sent-within = sent_in l; got-within = o.got-within; own-count = rw put_same (omega (arith, o.own-count, e)) } in
        let t = counts-within c r i (low c u i il) x k.got b (λ d dl n. rw (put_other 0 (station_at s i).time i d _ n) (w.counts i (low c u i il) d dl)) in
        changed c u i s _ x _ _ (change_puts c u i s _ _ (puts_send c u s v i j g ij may) x (rw (station-set_link, station-set))) w
        (w.targets i (low c u i il)) t k.got b k.links
        (λ b h f z. out g may l t b (eqb j b) refl f z)
      where
        sent_in : sent_to (station_at s i) j < limit c.limits i j → (m : ℕ) → sent_to (sending i j (station_at s i)) m ≤ limit c.limits i m
        sent_in l m = by_dec (ℕ_discrete m j) (λ p. rw (p, put_same) l) (λ p. rw (put_other 0 (station_at s i).sent j m _ p) ((w.books i il).station.sent-within m))

        out : (g : ℕ) → may_send (station_at s i).mode (done_seen (station_at s i) j) ≡ true → sent_to (station_at s i) j < limit c.limits i j
            → AtMost c.t (tick i (station_at s i).time) → (b : ℕ) (t : Bool) → eqb j b ≡ t → (f : ℕ)
            → Carried c i (station_at s i) b (station_at s b) f (link_at s i b)
            → Carried c i (sending i j (station_at s i)) b (station_at s b) f (link_at s i b ++ cond t (message (tick i (station_at s i).time) g ∷ []) [])
        out g may l t b true e f z =
            let p = eqb-true j b e in
            rw (← p, put_same) (book_message _ _ _ _ _ f (link_at s i j) _ g (sym (one_phase c u s v i j g ij may)) l t (rw (← p) at z))
        out g may l t b false e f z = rw (put_other 0 (station_at s i).sent j b _ (λ p. eqb-false j b e (sym p)), append-nil) z

    -- ---- receipts
    -- the first item y is taken off, and d messages more counted as taken
    taken_in : (d : ℕ) (y : Item vector) (q : List (Item vector)) → link_at s j i ≡ y ∷ q → messages (y ∷ q) ≡ d + messages q → (Loads c.t (y ∷ q) → Loads c.t q)
        → (k : Book c s i) (a : ℕ) (t : Bool) → eqb j a ≡ t → neighbours c i a ≡ true
        → Carried c a (station_at s a) i (station_at s i) (cond t (d + k.got a) (k.got a)) (cond t q (link_at s a i))
    taken_in d y q held m z k a true e h =
        let held' : link_at s a i ≡ y ∷ q = rw (eqb-true j a e) at held in
        let b = rw held' at (k.links a h) in
        record {
          most = omega (arith, b.most);
          one_phase = λ p. omega (arith, b.one_phase p);
          behind = λ p. omega (arith, b.behind p);
          loads = z b.loads;
        }
    taken_in d y q held m z k a false e h = k.links a h

    -- a control item: only the marks of the record x are others
    pub mark_books : (x : Station vector) (y : Item vector) (q : List (Item vector)) (l : List (Tagged vector)) → TakesOff c i j s (set_link (set_station s i x) j i q) y q l
        → messages (y ∷ q) ≡ messages q → (Loads c.t (y ∷ q) → Loads c.t q)
        → x.phase ≡ (station_at s i).phase → x.mode ≡ (station_at s i).mode → x.own ≡ (station_at s i).own → x.sent ≡ (station_at s i).sent → x.time ≡ (station_at s i).time
        → Books c (set_link (set_station s i x) j i q)
    mark_books x y q l m n z ph md ow se ti =
        let k = w.books i il in
        changed c u i s _ x _ _ (change_takes c u i j ij s _ y q l m x (rw (station-set_link, station-set))) w
        (rw (ph, md) (w.targets i (low c u i il))) (rw ti (w.counts i (low c u i il))) k.got (rw (ow, se, ti) k.station)
        (λ a h. rw ph (same a (eqb j a) (k.got a) (taken_in 0 y q m.held (omega (arith, n)) z k a (eqb j a) refl h)))
        (λ b h g t. rw (ph, se) t)
      where
        same : (a : ℕ) (t : Bool) (f : ℕ) → Carried c a (station_at s a) i (station_at s i) (cond t (0 + f) f) (cond t q (link_at s a i))
            → Carried c a (station_at s a) i (station_at s i) f (cond t q (link_at s a i))
        same a true f b = let e : 0 + f ≡ f = omega arith in rw e at b
        same a false f b = b

    -- a message
    pub receive-books : (m : List ℕ) (g : ℕ) (q : List (Item vector)) → link_at s j i ≡ message m g ∷ q → Books c (do_receive i j m g q s).after
    receive-books m g q held =
        let k = w.books i il in
        let o = k.station in
        let x = receiving i j m (station_at s i) in
        let f : ℕ → ℕ = λ a. cond (eqb j a) (1 + k.got a) (k.got a) in
        let ins : (a : ℕ) → neighbours c i a ≡ true → Carried c a (station_at s a) i (station_at s i) (f a) (cond (eqb j a) q (link_at s a i))
        = λ a h. taken_in 1 (message m g) q held (omega arith) (λ z. z.1) k a (eqb j a) refl h in
        let e = sum_grows 8 (λ (a : ℕ). sent_to (station_at s i) a + k.got a) (λ (a : ℕ). sent_to (station_at s i) a + f a) j (neighbour-small c u i j ij)
        (rw (eq-eqb j j refl) (omega arith)) (λ a n. rw (ne_eqb j a (λ e. n (sym e)))) in
        let b : Counted c i x f = record { own-within = o.own-within; sent-within = o.sent-within; got-within = got_in k (ins j ij).most; own-count = rw put_same (omega (arith, o.own-count, e)) } in
        let lw : AtMost c.t m = (rw held at (k.links j ij).loads).0 in
        changed c u i s _ x _ _ (change_takes c u i j ij s _ _ q _ (takes_message c u s v i j ij q m g held) x (rw (station-set_link, station-set))) w
        (w.targets i (low c u i il))
        (counts-within c r i (low c u i il) x f b (λ d dl n. rw (put_other 0 (merged (station_at s i).time m) i d _ n)
        (omega (arith, merged-most (station_at s i).time m d, w.counts i (low c u i il) d dl, lw d dl))))
        f b ins (λ b h g t. t)
      where
        got_in : (k : Book c s i) → cond (eqb j j) (1 + k.got j) (k.got j) + messages (cond (eqb j j) q (link_at s j i)) ≤ limit c.limits j i
            → (a : ℕ) → cond (eqb j a) (1 + k.got a) (k.got a) ≤ limit c.limits a i
        got_in k h a =
            by_test (eqb j a)
            (λ e. let p = eqb-true j a e in rw (← p) (omega (arith, h)))
            (λ e. rw e (k.station.got-within a))
