-- Laws of `news`: how many of the other stations' counts grew. Assumes nothing.
use Prim.Native.Nat.{ℕ, suc, max, ◌≤◌, ◌<◌}
use native.Mathlib.Omega.{arith}
use native.Mathlib.Decide.{ℕ_discrete, dec_lt}
use mathlib.Core.Path.{◌≡◌, refl, ap, ◌∙◌}
use mathlib.Core.Bool.{Bool, true, false}
use mathlib.Core.List.{List}
use lib.Dec.{ltb}
use lib.ListN.{length, get_or}
use borrow.Author.Tests.{eq-eqb, ne_eqb, lt-ltb, le-ltb, ltb-false}
use Rattle.codec.specs.Every.{count_below}
use Rattle.codec.proofs.CountLaws.{count_most, count_misses, count-empty, none_counted, count-stops, count_same}
use Rattle.codec.proofs.PutLaws.{put_other}
use Rattle.clock.specs.Timestamp.{tick, merged, raised, grew_at, news}
use Rattle.clock.proofs.MergeLaws.{merged_at}

-- another station's count that is greater grew, and one that is not did not
pub grew : (i : ℕ) (v w : List ℕ) (k : ℕ) → (k ≡ i → ⊥) → get_or v k 0 < get_or w k 0 → grew_at i v w k ≡ true
grew i v w k n h = rw (ne_eqb k i n, lt-ltb (get_or v k 0) (get_or w k 0) h)

pub no_growth : (i : ℕ) (v w : List ℕ) (k : ℕ) → ((k ≡ i → ⊥) → get_or w k 0 ≤ get_or v k 0) → grew_at i v w k ≡ false
no_growth i v w k h = go (ℕ_discrete k i)
  where
    go : Dec (k ≡ i) → grew_at i v w k ≡ false
    go (yes e) = rw (eq-eqb k i e)
    go (no n) = rw (ne_eqb k i n, le-ltb (get_or v k 0) (get_or w k 0) (h n))

-- the own count is never news
own_no_news : (i : ℕ) (v w : List ℕ) → grew_at i v w i ≡ false
own_no_news i v w = rw (eq-eqb i i refl)

-- there are seven others
pub news-most : (i : ℕ) (v w : List ℕ) → i < 8 → news i v w ≤ 7
unfolding news
news-most i v w h = omega (arith, count_misses (grew_at i v w) i 8 (own_no_news i v w) h)

pub news_eight : (i : ℕ) (v w : List ℕ) → news i v w ≤ 8
unfolding news
news_eight i v w = count_most (grew_at i v w) 8

-- among n stations there are n - 1 others
pub news-below : (n i : ℕ) (v w : List ℕ) → i < n → n ≤ 8 → ((k : ℕ) → n ≤ k → k < 8 → get_or w k 0 ≡ 0) → news i v w < n
unfolding news
news-below n i v w l m z =
    let p : ℕ → Bool = grew_at i v w in
    let e : count_below 8 p ≡ count_below n p = count-stops p n 8 m (λ (k : ℕ) (a : n ≤ k) (b : k < 8). no_growth i v w k (λ (q : k ≡ i → ⊥). omega (arith, z k a b))) in
    omega (arith, e, count_misses p i n (own_no_news i v w) l)

-- a test of another station's count, or of the own one
by_other : (i : ℕ) (p : ℕ → Type 0) (k : ℕ) → (k ≡ i → p k) → ((k ≡ i → ⊥) → p k) → p k
by_other i p k y n = go (ℕ_discrete k i)
  where
    go : Dec (k ≡ i) → p k
    go (yes e) = y e
    go (no e) = n e

-- a timestamp whose other counts are those of w brings the news of w
grew_like : (i : ℕ) (v w x : List ℕ) → ((k : ℕ) → k < 8 → (k ≡ i → ⊥) → ltb (get_or v k 0) (get_or x k 0) ≡ ltb (get_or v k 0) (get_or w k 0)) → news i v x ≡ news i v w
unfolding news
grew_like i v w x h =
    count_same 8 (grew_at i v x) (grew_at i v w) (λ (k : ℕ) (l : k < 8).
    by_other i (λ (k : ℕ). grew_at i v x k ≡ grew_at i v w k) k (λ (e : k ≡ i). rw (eq-eqb k i e)) (λ (n : k ≡ i → ⊥). rw (h k l n)))

greater_than : (a b : ℕ) → ltb a (max a b) ≡ ltb a b
greater_than a b = go (dec_lt a b)
  where
    go : Dec (a < b) → ltb a (max a b) ≡ ltb a b
    go (yes h) = rw (lt-ltb a b h, lt-ltb a (max a b) (omega arith))
    go (no h) = rw (le-ltb a b (omega arith), le-ltb a (max a b) (omega arith))

-- what a message brings is what it has that the station lacked
pub news-raised : (i : ℕ) (v w : List ℕ) → length v ≡ 8 → news i v (raised i v w) ≡ news i v w
news-raised i v w h =
    grew_like i v w (raised i v w)
    (λ (k : ℕ) (l : k < 8) (n : k ≡ i → ⊥). ap (ltb (get_or v k 0)) (put_other 0 (merged v w) i k _ n ∙ merged_at v w k (omega arith)) ∙ greater_than (get_or v k 0) (get_or w k 0))

-- an own entry or a send brings none
pub tick_no_news : (i : ℕ) (v : List ℕ) → news i v (tick i v) ≡ 0
unfolding news
tick_no_news i v =
    count-empty (grew_at i v (tick i v)) 8 (λ (k : ℕ) (l : k < 8).
    by_other i (λ (k : ℕ). grew_at i v (tick i v) k ≡ false) k (λ (e : k ≡ i). rw (eq-eqb k i e))
    (λ (n : k ≡ i → ⊥). rw (put_other 0 v i k (suc (get_or v i 0)) n, le-ltb (get_or v k 0) (get_or v k 0) (omega arith), ne_eqb k i n)))

-- where there is none, no other count grew
pub no_news : (i : ℕ) (v w : List ℕ) → news i v w ≡ 0 → (k : ℕ) → k < 8 → (k ≡ i → ⊥) → get_or w k 0 ≤ get_or v k 0
unfolding news
no_news i v w z k l n = ltb-false (get_or v k 0) (get_or w k 0) (rw (ne_eqb k i n) at (none_counted (grew_at i v w) k 8 z l))
