-- What stands in the table of first bytes are those of the records that the header allows. Assumes nothing.
use Prim.Native.Nat.{ℕ, ◌+◌, ◌*◌, ◌/◌, ◌%◌, ◌≤◌, ◌<◌}
use mathlib.Core.Path.{◌≡◌, refl, ◌∙◌, sym, ap}
use mathlib.Core.List.{List, []}
use mathlib.Core.Bool.{Bool, true, false, not, ◌&&◌, ◌||◌, cond}
use native.Mathlib.Omega.{arith}
use lib.Dec.{eqb, ltb, leb}
use lib.ListN.{get_or}
use borrow.Author.Tests.{eqb-true, eqb-false, ltb-true, lt-ltb, leb-true, ne_eqb, not-true}
use Rattle.codec.proofs.EveryLaws.{both, join}
use Rattle.record.specs.Record.{peer_fits}
use Rattle.record.specs.declared.Record.{Record}
use Rattle.block_test.specs.BlockTest.{has_link, peer_known}
use Rattle.front_table.specs.Fronts.{limit_of, may_stand, place_of, front_of}
use Rattle.front_table.proofs.TableLaws.{own_place, linked_place, linked_at, own_at}

-- four bytes of a number
bytes_same : (k s q a b c d : ℕ) → k < 256 → s < 256 → q < 256 → a < 256 → b < 256 → c < 256 → d < 256
    → k + (256 * s + 65536 * q) ≡ a + 256 * (b + 256 * (c + 256 * (d + 256 * 0))) → (k ≡ a) × (s ≡ b) × (q ≡ c) × (d ≡ 0)
bytes_same k s q a b c d h1 h2 h3 h4 h5 h6 h7 e = omega arith

or_left : (b : Bool) → (b || false) ≡ true → b ≡ true
or_left true h = refl
or_left false h = h

differ : (a b : ℕ) → not (eqb a b) ≡ true → eqb b a ≡ false
differ a b h = ne_eqb b a (λ (e : b ≡ a). eqb-false a b (not-true (eqb a b) h) (sym e))

module _ (n : ℕ) (m : List (List ℕ)) where
  -- ---- a record that may stand by its own kind, station and peer
  module _ (small : n ≤ 8) (r : Record) where
    abbrev Right : Type 0
    Right = (r.station < 8) × (peer_fits r.kind r.station r.peer ≡ true) × (peer_known n m r ≡ true)

    own_right : r.kind ≡ 1 → r.peer ≡ 255 → r.station < 8 → Right
    unfolding peer_fits peer_known
    own_right a c h = (h, rw (a, c), rw a)

    -- a sent or a received one, whose link is there
    linked_right : 2 ≤ r.kind → r.kind ≤ 3 → r.station < 8 → may_stand n m r.kind r.station r.peer ≡ true → Right
    unfolding may_stand limit_of has_link peer_fits peer_known
    linked_right a b s h =
        let q = both (ltb r.peer n && not (eqb r.station r.peer)) _ h in
        let d = both (ltb r.peer n) _ q.0 in
        go (ltb-true _ _ d.0) (differ r.station r.peer d.1) (eqb r.kind 2) refl q.1
      where
        go : r.peer < n → eqb r.peer r.station ≡ false → (t : Bool) → eqb r.kind 2 ≡ t
            → ltb 0 (cond t (get_or (get_or m r.station []) r.peer 0) (get_or (get_or m r.peer []) r.station 0)) ≡ true → Right
        go p x true e l =
            let k : r.kind ≡ 2 = eqb-true _ _ e in
            (s, rw (k, lt-ltb r.peer 8 (omega arith), x), rw (k, lt-ltb r.peer n p, l))
        go p x false e l =
            let z : r.kind ≡ 2 → ⊥ = eqb-false _ _ e in
            let k : r.kind ≡ 3 = omega arith in
            (s, rw (k, lt-ltb r.peer 8 (omega arith), x), rw (k, lt-ltb r.peer n p, l))

    module _ (d x : ℕ) (k-small : r.kind < 256) (s-small : r.station < 256) (p-small : r.peer < 256) (d_small : d < 256)
        (is : x ≡ r.kind + 256 * (r.station + 256 * (r.peer + 256 * (d + 256 * 0)))) where
      -- what stands where they are looked up is the record's first bytes
      pub front_back : front_of n m (place_of x) ≡ x → (d ≡ 0) × (place_of x % 8 ≡ r.station) × Right
      unfolding front_of place_of
      front_back e =
          go (place_of x) (omega arith) (λ (z : 458752 ≡ x). ap place_of (sym z)) (eqb (place_of x / 8) 7) refl
          (leb 2 (place_of x / 64) && may_stand n m (place_of x / 64) (place_of x % 8) (place_of x / 8 % 8)) refl e
        where
          go : (i : ℕ) → i < 256 → (458752 ≡ x → i ≡ 56) → (t : Bool) → eqb (i / 8) 7 ≡ t → (v : Bool) → (leb 2 (i / 64) && may_stand n m (i / 64) (i % 8) (i / 8 % 8)) ≡ v
              → cond t (16711681 + 256 * (i % 8)) (cond v (i / 64 + (256 * (i % 8) + 65536 * (i / 8 % 8))) 458752) ≡ x → (d ≡ 0) × (i % 8 ≡ r.station) × Right
          go i b y true f v w e =
              let q = bytes_same 1 (i % 8) 255 r.kind r.station r.peer d (omega arith) (omega arith) (omega arith) k-small s-small p-small d_small (omega arith) in
              (q.3, q.1, own_right (sym q.0) (sym q.2) (omega (arith, q.1)))
          go i b y false f true w e =
              let q = bytes_same (i / 64) (i % 8) (i / 8 % 8) r.kind r.station r.peer d (omega arith) (omega arith) (omega arith) k-small s-small p-small d_small (e ∙ is) in
              let v = both (leb 2 (i / 64)) _ w in
              let k : 2 ≤ i / 64 = leb-true _ _ v.0 in
              (q.3, q.1, linked_right (omega (arith, q.0)) (omega (arith, q.0)) (omega (arith, q.1)) (rw (q.0, q.1, q.2) at v.1))
          go i b y false f false w e = let q : i / 8 ≡ 7 → ⊥ = eqb-false _ _ f in absurd (q (omega (arith, y e)))

    -- ---- and the other way
    module _ (x : ℕ) (is : x ≡ r.kind + 256 * (r.station + 256 * (r.peer + 256 * 0))) where
      abbrev Stands : Type 0
      Stands = (front_of n m (place_of x) ≡ x) × (place_of x % 8 ≡ r.station)

      pub front_right : Right → Stands
      unfolding may_stand limit_of peer_fits peer_known has_link
      front_right h = own (eqb r.kind 1) refl
        where
          stands : 2 ≤ r.kind → r.kind ≤ 3 → r.peer < n → not (eqb r.peer r.station) ≡ true → ltb 0 (limit_of m r.kind r.station r.peer) ≡ true → Stands
          stands a b p d l =
              let s : r.station < 8 = h.0 in
              let q : r.peer < 8 = omega arith in
              let i : x ≡ r.kind + (256 * r.station + 65536 * r.peer) = omega arith in
              let y : not (eqb r.station r.peer) ≡ true = rw (differ r.peer r.station d) in
              let w : may_stand n m r.kind r.station r.peer ≡ true = join _ _ (join _ _ (lt-ltb _ _ p) y) l in
              rw (i, linked_place r.kind r.station r.peer a b s q) (linked_at r.kind r.station r.peer a b s q n m ∙ rw w, omega arith)

          linked : r.peer < n → (t : Bool) → eqb r.kind 2 ≡ t → (t && has_link m r.station r.peer || eqb r.kind 3 && has_link m r.peer r.station) ≡ true → Stands
          linked p true e l =
              let k : r.kind ≡ 2 = eqb-true _ _ e in
              let z = both (ltb r.peer 8) _ (rw k at h.1) in
              stands (omega arith) (omega arith) p z.1 (rw k (or_left (has_link m r.station r.peer) (rw k at l)))
          linked p false e l =
              let q = both (eqb r.kind 3) _ l in
              let k : r.kind ≡ 3 = eqb-true _ _ q.0 in
              let z = both (ltb r.peer 8) _ (rw k at h.1) in
              stands (omega arith) (omega arith) p z.1 (rw k q.1)

          own : (t : Bool) → eqb r.kind 1 ≡ t → Stands
          own true e =
              let k : r.kind ≡ 1 = eqb-true _ _ e in
              let p : r.peer ≡ 255 = eqb-true _ _ (or_left (eqb r.peer 255) (rw k at h.1)) in
              let s : r.station < 8 = h.0 in
              let i : x ≡ 16711681 + 256 * r.station = omega arith in
              rw (i, own_place r.station s) (own_at n m r.station s, omega arith)
          own false e =
              let q = both (ltb r.peer n) _ (rw e at h.2) in
              linked (ltb-true _ _ q.0) (eqb r.kind 2) refl q.1
