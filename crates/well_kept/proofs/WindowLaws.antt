-- Windows of keys: what a pass gathers, and what a sorted window tells. Assumes nothing.
use Prim.Native.Nat.{ℕ, zero, suc, ◌+◌, ◌-◌, ◌%◌, ◌≤◌, ◌<◌}
use mathlib.Core.Path.{◌≡◌, refl, sym, ap, ◌∙◌}
use mathlib.Core.Logic.{◌⊎◌, inl, inr}
use mathlib.Core.List.{List, [], ◌∷◌, ◌++◌}
use mathlib.Core.Bool.{Bool, true, false, and-false, true≢false}
use native.Mathlib.Omega.{arith}
use native.Mathlib.Numerals.{add-one}
use native.Mathlib.Decide.{ℕ_discrete, dec_lt, dec_le}
use lib.Dec.{ltb}
use lib.ListN.{length, get_or, set, length-append}
use lib.Seq.{take-suc-set}
use borrow.Author.Tests.{lt-ltb, le-ltb, le-leb, lt-leb, eq-eqb, ne_eqb}
use Rattle.codec.specs.Every.{count_below}
use Rattle.codec.proofs.EveryLaws.{both}
use Rattle.codec.proofs.CountLaws.{count_none, count-passed, count_failed}
use Rattle.lists.specs.Lists.{count, Up, same}
use Rattle.lists.proofs.CountLaws.{is_itself, is_other, find, Stands as Stand}
use Rattle.well_kept.specs.Keys.{key_at, no_key, has_key, times, follows, runs_on, last_from, within, keys_in}
use Rattle.well_kept.specs.Windows.{Gathered, Stands, Checked}
use Rattle.well_kept.specs.declared.Window.{Window}
use Rattle.well_kept.proofs.KeyLaws.{follows_is, follows-not}

-- ---- keys within a window
pub within-yes : (lo hi x : ℕ) → lo < x → x ≤ hi → within lo hi x ≡ true
within-yes lo hi x l m = rw (lt-ltb lo x l, le-leb x hi m)

within_low : (lo hi x : ℕ) → x ≤ lo → within lo hi x ≡ false
within_low lo hi x l = rw (le-ltb lo x l)

within-high : (lo hi x : ℕ) → hi < x → within lo hi x ≡ false
within-high lo hi x l = rw (lt-leb x hi l) (and-false (ltb lo x))

pub within-out : (lo hi x : ℕ) → (lo < x → x ≤ hi → ⊥) → within lo hi x ≡ false
within-out lo hi x h = go (dec_lt lo x)
  where
    go : Dec (lo < x) → within lo hi x ≡ false
    go (yes l) = within-high lo hi x (let n : x ≤ hi → ⊥ = h l in omega (arith, n))
    go (no l) = within_low lo hi x (omega (arith, l))

module _ (a : List ℕ) (lo hi : ℕ) where
  pub keys_none : keys_in a lo hi 0 ≡ []
  unfolding keys_in
  keys_none = refl

  pub keys_more : (n : ℕ) → within lo hi (key_at a n) ≡ true → keys_in a lo hi (n + 1) ≡ keys_in a lo hi n ++ (key_at a n ∷ [])
  unfolding keys_in
  keys_more n e = rw (add-one, e)

  pub keys_same : (n : ℕ) → within lo hi (key_at a n) ≡ false → keys_in a lo hi (n + 1) ≡ keys_in a lo hi n
  unfolding keys_in
  keys_same n e = rw (add-one, e)

  pub keys_most : (n : ℕ) → length (keys_in a lo hi n) ≤ n
  keys_most zero = rw keys_none (omega arith)
  keys_most (suc n) = rw (← add-one) (go (keys_most n) (within lo hi (key_at a n)) refl)
    where
      go : length (keys_in a lo hi n) ≤ n → (t : Bool) → within lo hi (key_at a n) ≡ t → length (keys_in a lo hi (n + 1)) ≤ n + 1
      go ih true e = rw (keys_more n e, length-append) (omega (arith, ih))
      go ih false e = rw (keys_same n e) (omega (arith, ih))

  -- ---- a pass
  pub gathered_none : (list : List ℕ) → hi < no_key → Gathered a lo hi 0 (record { count = 0; next = no_key }) list
  gathered_none list h = record {
    many = rw keys_none;
    least = omega arith;
    above = h;
    none = λ i l. absurd (omega arith);
    listed = λ l. rw keys_none;
  }

  module _ {n : ℕ} {w : Window} {list : List ℕ} (g : Gathered a lo hi n w list) (key : ℕ) (is : key_at a n ≡ key) where
    -- a key behind the window
    pub gathered-behind : (next : ℕ) → hi < key → next ≤ key → next ≤ w.next → hi < next → Gathered a lo hi (n + 1) (record { count = w.count; next = next }) list
    gathered-behind next h k m o =
        let e = keys_same n (rw is (within-high lo hi key h)) in
        record {
          many = rw e g.many;
          least = omega (arith, g.least);
          above = o;
          none = λ i l z. behind i l z (ℕ_discrete i n);
          listed = λ l. rw e (g.listed l);
        }
      where
        behind : (i : ℕ) → i < n + 1 → hi < key_at a i → Dec (i ≡ n) → next ≤ key_at a i
        behind i l z (yes q) = rw (q, is) k
        behind i l z (no q) = omega (arith, g.none i (omega (arith, q)) z)

    -- a key before it
    pub gathered_before : key ≤ hi → key ≤ lo → Gathered a lo hi (n + 1) w list
    gathered_before h k =
        let e = keys_same n (rw is (within_low lo hi key k)) in
        record {
          many = rw e g.many;
          least = g.least;
          above = g.above;
          none = λ i l z. other i l z (ℕ_discrete i n);
          listed = λ l. rw e (g.listed l);
        }
      where
        other : (i : ℕ) → i < n + 1 → hi < key_at a i → Dec (i ≡ n) → w.next ≤ key_at a i
        other i l z (yes q) = absurd (omega (arith, is, ap (key_at a) q))
        other i l z (no q) = g.none i (omega (arith, q)) z

    -- a key of it
    pub gathered_in : (after : List ℕ) → key ≤ hi → lo < key → length after ≡ length list
        → (w.count < length list → after ≡ set list w.count key) → Gathered a lo hi (n + 1) (record { count = w.count + 1; next = w.next }) after
    gathered_in after h k long put =
        let e = keys_more n (rw is (within-yes lo hi key k h)) in
        record {
          many = rw (e, length-append) (omega (arith, g.many));
          least = g.least;
          above = g.above;
          none = λ i l z. other i l z (ℕ_discrete i n);
          listed = λ l. rw (e, is, put (omega arith), add-one, take-suc-set list w.count key (omega arith), g.listed (omega arith));
        }
      where
        other : (i : ℕ) → i < n + 1 → hi < key_at a i → Dec (i ≡ n) → w.next ≤ key_at a i
        other i l z (yes q) = absurd (omega (arith, is, ap (key_at a) q))
        other i l z (no q) = g.none i (omega (arith, q)) z

  -- ---- how often a key stands in a window
  count-append : (x : ℕ) (l m : List ℕ) → count x (l ++ m) ≡ count x l + count x m
  count-append x [] m = omega arith
  count-append x (y ∷ l) m = omega (arith, count-append x l m)

  pub keys_count : (x : ℕ) → lo < x → x ≤ hi → (n : ℕ) → count x (keys_in a lo hi n) ≡ count_below n (has_key a x)
  keys_count x l m zero = rw (keys_none, count_none (has_key a x)) refl
  keys_count x l m (suc n) = rw (← add-one) (go (keys_count x l m n) (ℕ_discrete (key_at a n) x) (within lo hi (key_at a n)) refl)
    where
      go : count x (keys_in a lo hi n) ≡ count_below n (has_key a x) → Dec (key_at a n ≡ x) → (t : Bool) → within lo hi (key_at a n) ≡ t → count x (keys_in a lo hi (n + 1)) ≡ count_below (n + 1) (has_key a x)
      go ih (yes e) true t =
          rw (keys_more n t, count-append x (keys_in a lo hi n) (key_at a n ∷ []), count-passed (has_key a x) n (eq-eqb (key_at a n) x e), e, is_itself x) (omega (arith, ih))
      go ih (yes e) false t = absurd (true≢false (sym (within-yes lo hi x l m) ∙ (rw e at t)))
      go ih (no e) true t =
          rw (keys_more n t, count-append x (keys_in a lo hi n) (key_at a n ∷ []), count_failed (has_key a x) n (ne_eqb (key_at a n) x e), is_other x (key_at a n) (λ z. e (sym z))) (omega (arith, ih))
      go ih (no e) false t = rw (keys_same n t, count_failed (has_key a x) n (ne_eqb (key_at a n) x e)) ih

  -- no other number stands there
  keys_out : (x : ℕ) → within lo hi x ≡ false → (n : ℕ) → count x (keys_in a lo hi n) ≡ 0
  keys_out x o zero = rw keys_none
  keys_out x o (suc n) = rw (← add-one) (go (keys_out x o n) (within lo hi (key_at a n)) refl)
    where
      go : count x (keys_in a lo hi n) ≡ 0 → (t : Bool) → within lo hi (key_at a n) ≡ t → count x (keys_in a lo hi (n + 1)) ≡ 0
      go ih false t = rw (keys_same n t) ih
      go ih true t =
          let d : x ≡ key_at a n → ⊥ = λ e. true≢false (sym t ∙ (rw e at o)) in
          rw (keys_more n t, count-append x (keys_in a lo hi n) (key_at a n ∷ []), is_other x (key_at a n) d) (omega (arith, ih))

  pub keys_inside : (x n : ℕ) → 1 ≤ count x (keys_in a lo hi n) → (lo < x) × (x ≤ hi)
  keys_inside x n h = go (dec_lt lo x) (dec_le x hi)
    where
      go : Dec (lo < x) → Dec (x ≤ hi) → (lo < x) × (x ≤ hi)
      go (yes l) (yes m) = (l, m)
      go (no l) m = absurd (omega (arith, keys_out x (within_low lo hi x (omega (arith, l))) n))
      go (yes l) (no m) = absurd (omega (arith, keys_out x (within-high lo hi x (omega (arith, m))) n))

-- ---- a sorted window
-- what is left of it above lo: in order, and each key as often as there are records with it
pub record Left (a : List ℕ) (lo hi : ℕ) (l : List ℕ) : Type 0 where
  pub up : Up same l
  pub counts : (x : ℕ) → lo < x → x ≤ hi → count x l ≡ times a x
  pub inside : (x : ℕ) → 1 ≤ count x l → (lo < x) × (x ≤ hi)

module _ (a : List ℕ) (hi : ℕ) where
  -- its first key v
  module _ {lo v : ℕ} {l : List ℕ} (w : Left a lo hi (v ∷ l)) where
    first_in : (lo < v) × (v ≤ hi)
    first_in = w.inside v (omega (arith, is_itself v))

    first_least : (x : ℕ) → 1 ≤ count x l → v ≤ x
    first_least x h = let f = find x l h in rw f.there at (w.up 0 (suc f.place) (omega arith) (omega (arith, f.within)))

    first_times : times a v ≡ 1 + count v l
    first_times = omega (arith, w.counts v first_in.0 first_in.1, is_itself v)

    -- where it stands there once
    module _ (single : count v l ≡ 0) where
      left_more : Left a v hi l
      left_more = record {
        up = λ i j h k. w.up (suc i) (suc j) (omega arith) (omega arith);
        counts = λ x h k. omega (arith, w.counts x (omega (arith, first_in.0)) k, is_other x v (λ e. omega arith));
        inside = λ x h. (more x h (ℕ_discrete x v), (w.inside x (omega arith)).1);
      }
        where
          more : (x : ℕ) → 1 ≤ count x l → Dec (x ≡ v) → v < x
          more x h (yes e) = absurd (omega (arith, ap (λ (z : ℕ). count z l) e))
          more x h (no e) = omega (arith, first_least x h, e)

      -- there is no key between
      none_between : (x : ℕ) → lo < x → x < v → times a x ≡ 0
      none_between x h k = go (dec_lt 0 (count x l))
        where
          go : Dec (0 < count x l) → times a x ≡ 0
          go (yes z) = absurd (omega (arith, first_least x (omega (arith, z))))
          go (no z) = omega (arith, z, w.counts x h (omega (arith, first_in.1)), is_other x v (λ e. omega arith))

      checked_more : (p : ℕ) → Checked a lo p → follows p v ≡ true → Checked a v v
      checked_more p c f = record {
        stand = λ x h. stand x h (dec_le x lo) (ℕ_discrete x v);
        below = omega arith;
        none = λ x h k. absurd (omega arith);
        some = inr (omega (arith, first_times));
      }
        where
          next : (v ≡ p + 1) ⊎ (v % 65536 ≡ 1) → (p ≡ 0) ⊎ (1 ≤ times a p) → (v % 65536 ≡ 1) ⊎ (1 ≤ times a (v - 1))
          next (inr z) s = inl z
          next (inl z) (inl y) = inl (let q : v ≡ 1 = omega arith in rw q)
          next (inl z) (inr y) = inr (let q : v - 1 ≡ p = omega arith in rw q y)

          stand : (x : ℕ) → x ≤ v → Dec (x ≤ lo) → Dec (x ≡ v) → Stands a x
          stand x h (yes k) d = c.stand x k
          stand x h (no k) (yes d) = rw d (record { once = omega (arith, first_times); next = λ o. next (follows_is p v f).1 c.some })
          stand x h (no k) (no d) = let z = none_between x (omega (arith, k)) (omega (arith, d)) in record { once = omega arith; next = λ o. absurd (omega arith) }

      -- and where it does not follow, it does not stand where it may
      not-standing : (p : ℕ) → Checked a lo p → follows p v ≡ false → Stands a v → ⊥
      not-standing p c f st =
          let n = follows-not p v f (omega (arith, c.below, first_in.0)) in
          go n (st.next (omega (arith, first_times))) (dec_le (v - 1) lo)
        where
          go : (v ≡ p + 1 → ⊥) × (v % 65536 ≡ 1 → ⊥) → (v % 65536 ≡ 1) ⊎ (1 ≤ times a (v - 1)) → Dec (v - 1 ≤ lo) → ⊥
          go n (inl z) d = n.1 z
          go n (inr z) (yes d) = omega (arith, n.0, c.none (v - 1) (omega (arith, n.0, c.below, first_in.0)) d)
          go n (inr z) (no d) = omega (arith, none_between (v - 1) (omega (arith, d)) (omega (arith, first_in.0)))

  -- where a key stands in it twice, the next is the same, and does not follow
  twice_fails : {lo v : ℕ} (l : List ℕ) → Left a lo hi (v ∷ l) → 1 ≤ count v l → runs_on v l ≡ false
  unfolding runs_on follows
  twice_fails [] w h = absurd (omega arith)
  twice_fails {lo} {v} (u ∷ m) w h = rw (le-ltb v u (go (find v (u ∷ m) h)))
    where
      go : Stand v (u ∷ m) → u ≤ v
      go f = go' f.place f.within f.there
        where
          go' : (i : ℕ) → i < length (u ∷ m) → get_or (u ∷ m) i 0 ≡ v → u ≤ v
          go' zero l e = omega arith
          go' (suc i) l e = rw e at (w.up 1 (suc (suc i)) (omega arith) (omega arith))

  -- ---- the run tells
  pub run_checks : (l : List ℕ) (lo p : ℕ) → lo ≤ hi → Left a lo hi l → Checked a lo p → runs_on p l ≡ true → Checked a hi (last_from p l)
  unfolding runs_on
  run_checks [] lo p g w c r = record {
    stand = λ x h. go x h (dec_le x lo);
    below = omega (arith, c.below);
    none = λ x h k. none x h k (dec_le x lo);
    some = c.some;
  }
    where
      none : (x : ℕ) → p < x → x ≤ hi → Dec (x ≤ lo) → times a x ≡ 0
      none x h k (yes d) = c.none x h d
      none x h k (no d) = sym (w.counts x (omega (arith, d)) k)

      go : (x : ℕ) → x ≤ hi → Dec (x ≤ lo) → Stands a x
      go x h (yes d) = c.stand x d
      go x h (no d) = let z = w.counts x (omega (arith, d)) h in record { once = omega arith; next = λ o. absurd (omega arith) }
  run_checks (v ∷ l) lo p g w c r =
      let b = both (follows p v) _ r in
      go b (dec_lt 0 (count v l)) (λ z. run_checks l v v (first_in w).1 (left_more w z) (checked_more w z p c b.0) b.1)
    where
      go : (follows p v ≡ true) × (runs_on v l ≡ true) → Dec (0 < count v l) → (count v l ≡ 0 → Checked a hi (last_from v l)) → Checked a hi (last_from v l)
      go b (yes d) k = absurd (true≢false (sym b.1 ∙ twice_fails l w (omega (arith, d))))
      go b (no d) k = k (omega (arith, d))

  pub run_fails : (l : List ℕ) (lo p : ℕ) → Left a lo hi l → Checked a lo p → runs_on p l ≡ false → ((x : ℕ) → Stands a x) → ⊥
  unfolding runs_on
  run_fails [] lo p w c r st = true≢false r
  run_fails (v ∷ l) lo p w c r st =
      go (dec_lt 0 (count v l)) (follows p v) refl (λ z f. run_fails l v v (left_more w z) (checked_more w z p c f))
    where
      go : Dec (0 < count v l) → (t : Bool) → follows p v ≡ t → (count v l ≡ 0 → follows p v ≡ true → runs_on v l ≡ false → ((x : ℕ) → Stands a x) → ⊥) → ⊥
      go (yes d) t f k = omega (arith, d, first_times w, (st v).once)
      go (no d) true f k = k (omega (arith, d)) f (rw f at r) st
      go (no d) false f k = not-standing w (omega (arith, d)) p c f (st v)
