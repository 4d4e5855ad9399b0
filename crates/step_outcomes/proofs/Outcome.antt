-- The outcome of each step from a well-formed state, by the tests that decide it: what a step over lent bytes has to look at. Assumes nothing.
use Prim.Native.Nat.{ℕ, suc, ◌≤◌, ◌<◌}
use mathlib.Core.Path.{◌≡◌, refl, sym, ◌∙◌, ap}
use mathlib.Core.Logic.{◌≢◌}
use mathlib.Core.Bool.{true, false, not, ◌&&◌}
use mathlib.Core.List.{List, [], ◌∷◌}
use native.Mathlib.Omega.{arith}
use lib.Dec.{leb}
use lib.ListN.{get_or, length}
use borrow.Author.Tests.{le-leb, lt-leb}
use Rattle.codec.proofs.EveryLaws.{both, every_at}
use Rattle.reset.specs.Config.{Config, is_station, neighbours, limit_at, allowance_at, places, well_made}
use Rattle.reset.proofs.ConfigLaws.{Rules, rules, station-below, not_itself}
use Rattle.reset.specs.Clock.{vector, timestamp_fits}
use Rattle.reset.specs.State.{Item, message, Station, State, station_at, link_at, done_seen, sent_to, set_station, set_link}
use Rattle.reset.specs.Steps.{enter, send, recv, start, mode_after, refuse, guard, in_bounds, bounded, do_enter, do_send, do_receive, do_mark, do_start, settle, may_send, is_normal, begin_reset, turn, receive, step}
use Rattle.reset.proofs.Views.{station-set, station-set_link, link_set-row}
use Rattle.reset.specs.WellFormed.{item_fits, item_fits_at, link_fits, well_formed}
use Rattle.reset.proofs.ClockRange.{counts-small, vector-range}
use Rattle.reset.proofs.Formed.{Formed, formed_of, station-counts, formed-bounds, Bounds}
use Rattle.reset_rules.specs.Turn.{Turning, turned, started, put_items}
use Rattle.reset_rules.proofs.TurnLaws.{set_link-set, turn_set, start_set}
use Rattle.step_outcomes.proofs.Local.{taken_shorter, enter-bounds, receive-bounds, send-bounds, room_for, turned_within, started-within, control-bounds, station-put_items}

module _ (c : Config) (s : State vector) (w : well_formed c s ≡ true) where
  facts : Formed c s
  facts = formed_of c s w

  inside : Bounds c s
  inside = formed-bounds vector-range c s w

  pub net : Rules c
  net = let p = both (well_made c) _ facts.accepted in rules c p.0 p.1

  pub station-small : (i : ℕ) → is_station c i ≡ true → i < 8
  station-small i h = omega (arith, net.small, station-below c i h)

  pub neighbour-small : (i j : ℕ) → neighbours c i j ≡ true → j < 8
  neighbour-small i j h = omega (arith, net.small, net.inside i j h)

  -- ---- enter
  module _ (i g : ℕ) where
    pub enter_no_station : is_station c i ≡ false → step c s (enter i g) ≡ refuse s 4
    unfolding guard
    enter_no_station h = rw h

    module _ (h : is_station c i ≡ true) where
      pub enter_used_up : allowance_at c (station_at s i).phase i ≤ (station_at s i).own → step c s (enter i g) ≡ refuse s 6
      unfolding guard
      enter_used_up u = rw (h, le-leb (allowance_at c (station_at s i).phase i) (station_at s i).own u)

      module _ (u : (station_at s i).own < allowance_at c (station_at s i).phase i) where
        enter_left : step c s (enter i g) ≡ bounded c s (do_enter i g s)
        unfolding guard
        enter_left = rw (h, lt-leb (allowance_at c (station_at s i).phase i) (station_at s i).own u)

        pub enter-full : c.t ≤ get_or (station_at s i).time i 0 → step c s (enter i g) ≡ refuse s 2
        unfolding guard bounded
        enter-full f = enter_left ∙ rw (enter-bounds c s inside i (station-small i h) g, lt-leb (suc (get_or (station_at s i).time i 0)) c.t (omega arith))

        pub enter-done : get_or (station_at s i).time i 0 < c.t → step c s (enter i g) ≡ do_enter i g s
        unfolding guard bounded
        enter-done f = enter_left ∙ rw (enter-bounds c s inside i (station-small i h) g, le-leb (suc (get_or (station_at s i).time i 0)) c.t (omega arith))

  -- ---- send
  module _ (i j g : ℕ) where
    pub send_no_station : is_station c i ≡ false → step c s (send i j g) ≡ refuse s 4
    unfolding guard
    send_no_station h = rw h

    module _ (h : is_station c i ≡ true) where
      pub send_no_neighbour : neighbours c i j ≡ false → step c s (send i j g) ≡ refuse s 4
      unfolding guard
      send_no_neighbour n = rw (h, n)

      module _ (n : neighbours c i j ≡ true) where
        pub send_forbidden : may_send (station_at s i).mode (done_seen (station_at s i) j) ≡ false → step c s (send i j g) ≡ refuse s 5
        unfolding guard
        send_forbidden m = rw (h, n, m)

        module _ (m : may_send (station_at s i).mode (done_seen (station_at s i) j) ≡ true) where
          pub send_used_up : limit_at c (station_at s i).phase i j ≤ sent_to (station_at s i) j → step c s (send i j g) ≡ refuse s 6
          unfolding guard
          send_used_up u = rw (h, n, m, le-leb (limit_at c (station_at s i).phase i j) (sent_to (station_at s i) j) u)

          module _ (u : sent_to (station_at s i) j < limit_at c (station_at s i).phase i j) where
            -- what is left to test: the own count, and the link's room
            send_left : step c s (send i j g)
                ≡ guard s (not (leb (suc (get_or (station_at s i).time i 0)) c.t && leb (suc (length (link_at s i j))) (places c i j))) 2 (do_send i j g s)
            unfolding guard bounded
            send_left =
                rw (h, n, m, lt-leb (limit_at c (station_at s i).phase i j) (sent_to (station_at s i) j) u, send-bounds c s inside i (station-small i h) j g (neighbour-small i j n))

            pub send-full : c.t ≤ get_or (station_at s i).time i 0 → step c s (send i j g) ≡ refuse s 2
            unfolding guard
            send-full f = send_left ∙ rw (lt-leb (suc (get_or (station_at s i).time i 0)) c.t (omega arith))

            pub send_no_room : get_or (station_at s i).time i 0 < c.t → places c i j ≤ length (link_at s i j) → step c s (send i j g) ≡ refuse s 2
            unfolding guard
            send_no_room f r =
                send_left
                ∙ rw (le-leb (suc (get_or (station_at s i).time i 0)) c.t (omega arith), lt-leb (suc (length (link_at s i j))) (places c i j) (omega arith))

            pub send-done : get_or (station_at s i).time i 0 < c.t → length (link_at s i j) < places c i j → step c s (send i j g) ≡ do_send i j g s
            unfolding guard
            send-done f r =
                send_left
                ∙ rw (le-leb (suc (get_or (station_at s i).time i 0)) c.t (omega arith), le-leb (suc (length (link_at s i j))) (places c i j) (omega arith))

  -- ---- a control item taken or a start: the record x of station i, and then the rules
  module _ (i : ℕ) (il : i < 8) (s₁ : State vector) (x : Station vector) (u : Turning vector)
      (stations : (k : ℕ) → station_at s₁ k ≡ station_at s k) (out : (b : ℕ) → link_at s₁ i b ≡ link_at s i b)
      (rows : (a b : ℕ) → a ≢ i → length (link_at s₁ a b) ≤ length (link_at s a b))
      (small : (k : ℕ) → k < 8 → get_or u.station.time k 0 ≤ c.t)
      (t : State vector) (e : turn c i t ≡ put_items c (set_station s₁ i u.station) i u.items) where
    pub control-refused : (leb u.station.phase 999999 && room_for c s i (length u.items)) ≡ false → bounded c s (settle c i t) ≡ refuse s 2
    unfolding guard bounded
    control-refused h = rw (e, control-bounds c s s₁ inside i il stations out rows u.station small u.items, h)

    -- the answer and the state that the rules lead to
    pub control-done : (leb u.station.phase 999999 && room_for c s i (length u.items)) ≡ true → bounded c s (settle c i t)
        ≡ record { answer = mode_after i u.station.mode u.station.phase; after = put_items c (set_station s₁ i u.station) i u.items }
    unfolding guard bounded
    control-done h =
        rw (
          e,
          control-bounds c s s₁ inside i il stations out rows u.station small u.items,
          h,
          station-put_items c i (set_station s₁ i u.station) u.items i,
          station-set s₁ i u.station,
        )

  -- ---- start
  module _ (i : ℕ) where
    pub start_no_station : is_station c i ≡ false → step c s (start i) ≡ refuse s 4
    unfolding guard
    start_no_station h = rw h

    module _ (h : is_station c i ≡ true) where
      pub start_forbidden : is_normal (station_at s i).mode ≡ false → step c s (start i) ≡ refuse s 5
      unfolding guard
      start_forbidden m = rw (h, m)

      module _ (m : is_normal (station_at s i).mode ≡ true) where
        pub start_last : 999999 ≤ (station_at s i).phase → step c s (start i) ≡ refuse s 8
        unfolding guard
        start_last p = rw (h, m, le-leb 999999 (station_at s i).phase p)

        module _ (p : (station_at s i).phase < 999999) where
          start_left : step c s (start i) ≡ bounded c s (do_start c i s)
          unfolding guard
          start_left = rw (h, m, lt-leb 999999 (station_at s i).phase p)

          abbrev begins : Turning vector
          begins = started c i (station_at s i)

          small-begins : (k : ℕ) → k < 8 → get_or begins.station.time k 0 ≤ c.t
          small-begins = started-within c i (station_at s i) (station-counts vector-range c i (station_at s i) (facts.station i (station-small i h)))

          pub start_refused : (leb begins.station.phase 999999 && room_for c s i (length begins.items)) ≡ false → step c s (start i) ≡ refuse s 2
          start_refused t =
              start_left
              ∙ control-refused i (station-small i h) s (station_at s i) begins (λ k. refl) (λ b. refl) (λ a b n. omega arith) small-begins (begin_reset c i s) (start_set c i s) t

          pub start_done : (leb begins.station.phase 999999 && room_for c s i (length begins.items)) ≡ true
              → step c s (start i) ≡ record { answer = mode_after i begins.station.mode begins.station.phase; after = put_items c (set_station s i begins.station) i begins.items }
          start_done t =
              start_left
              ∙ control-done i (station-small i h) s (station_at s i) begins (λ k. refl) (λ b. refl) (λ a b n. omega arith) small-begins (begin_reset c i s) (start_set c i s) t

  -- ---- recv
  module _ (i j : ℕ) where
    pub recv_no_station : is_station c i ≡ false → step c s (recv i j) ≡ refuse s 4
    unfolding guard
    recv_no_station h = rw h

    module _ (h : is_station c i ≡ true) where
      pub recv_no_neighbour : neighbours c i j ≡ false → step c s (recv i j) ≡ refuse s 4
      unfolding guard
      recv_no_neighbour n = rw (h, n)

      module _ (n : neighbours c i j ≡ true) where
        recv_left : step c s (recv i j) ≡ receive c i j s (link_at s j i)
        unfolding guard
        recv_left = rw (h, n)

        pub recv-empty : link_at s j i ≡ [] → step c s (recv i j) ≡ refuse s 7
        recv-empty e = recv_left ∙ rw e

        -- a message
        module _ (v : List ℕ) (g : ℕ) (q : List (Item vector)) (e : link_at s j i ≡ message v g ∷ q) where
          pub message-small : (k : ℕ) → k < 8 → get_or v k 0 ≤ c.t
          unfolding link_fits
          message-small k l =
              let f = facts.link j i (neighbour-small i j n) (station-small i h) in
              let p = both (leb (length (link_at s j i)) (places c j i)) _ f in
              let a : item_fits {K = vector} c (message v g) ≡ true
              = every_at (length (message v g ∷ q)) (item_fits_at {K = vector} c (message v g ∷ q)) 0 (rw e at p.1) (omega arith) in
              counts-small c c.t v (both (timestamp_fits c c.t v) _ a).0 k l

          bounded_by : in_bounds c (do_receive i j v g q s).after ≡ leb (suc (get_or (station_at s i).time i 0)) c.t
          bounded_by = receive-bounds c s inside i (station-small i h) j v g q (neighbour-small i j n) e message-small (not_itself c net i j n)

          pub message-full : c.t ≤ get_or (station_at s i).time i 0 → step c s (recv i j) ≡ refuse s 2
          unfolding guard bounded
          message-full f = recv_left ∙ rw (e, bounded_by, lt-leb (suc (get_or (station_at s i).time i 0)) c.t (omega arith))

          pub message-done : get_or (station_at s i).time i 0 < c.t → step c s (recv i j) ≡ do_receive i j v g q s
          unfolding guard bounded
          message-done f = recv_left ∙ rw (e, bounded_by, le-leb (suc (get_or (station_at s i).time i 0)) c.t (omega arith))

        -- a control item y, which marks station i's record as x
        module _ (x : Station vector) (y : Item vector) (q : List (Item vector)) (e : link_at s j i ≡ y ∷ q) (time : x.time ≡ (station_at s i).time)
            (marks : receive c i j s (y ∷ q) ≡ bounded c s (do_mark c i j x q s)) where
          abbrev turns : Turning vector
          turns = turned c i x

          abbrev s₁ : State vector
          s₁ = set_link s j i q

          out : (b : ℕ) → link_at s₁ i b ≡ link_at s i b
          out b = link_set-row s j i q i b (λ p. not_itself c net i j n (sym p))

          rows : (a b : ℕ) → a ≢ i → length (link_at s₁ a b) ≤ length (link_at s a b)
          rows a b m = taken_shorter s j i y q e a b

          small-turns : (k : ℕ) → k < 8 → get_or turns.station.time k 0 ≤ c.t
          small-turns = turned_within c i x (λ k l. rw time (station-counts vector-range c i (station_at s i) (facts.station i (station-small i h)) k l))

          leads : turn c i (set_link (set_station s i x) j i q) ≡ put_items c (set_station s₁ i turns.station) i turns.items
          leads = ap (turn c i) (set_link-set s j i i q x) ∙ turn_set c i (set_link s j i q) x

          stays : (k : ℕ) → station_at s₁ k ≡ station_at s k
          stays k = station-set_link s j i q k

          pub mark_refused : (leb turns.station.phase 999999 && room_for c s i (length turns.items)) ≡ false → step c s (recv i j) ≡ refuse s 2
          mark_refused t =
              recv_left ∙ rw e (marks ∙ control-refused i (station-small i h) s₁ x turns stays out rows small-turns (set_link (set_station s i x) j i q) leads t)

          pub mark_done : (leb turns.station.phase 999999 && room_for c s i (length turns.items)) ≡ true
              → step c s (recv i j)
              ≡ record { answer = mode_after i turns.station.mode turns.station.phase; after = put_items c (set_station (set_link s j i q) i turns.station) i turns.items }
          mark_done t =
              recv_left ∙ rw e (marks ∙ control-done i (station-small i h) s₁ x turns stays out rows small-turns (set_link (set_station s i x) j i q) leads t)
