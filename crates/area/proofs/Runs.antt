-- The links read as items and runs of zeros: what stands between the items of one link and those of the next that has some is one run. Assumes nothing.
use Prim.Native.Nat.{ℕ, ◌+◌, ◌*◌, ◌-◌, ◌/◌, ◌%◌, ◌≤◌, ◌<◌}
use mathlib.Core.Path.{◌≡◌, refl, ◌∙◌, sym, ap}
use mathlib.Core.List.{List, []}
use mathlib.Core.Bool.{Bool, true, false, ◌&&◌, true≢false}
use native.Mathlib.Omega.{arith}
use lib.ListN.{length, get_or, take, drop, length-take, length-drop}
use lib.Seq.{take_all, take-add, drop_at, drop-drop, get_or-take, get_or-drop}
use borrow.Author.Tests.{eq-eqb}
use Rattle.codec.specs.Every.{every, total, all_zero}
use Rattle.codec.proofs.EveryLaws.{both, join, every_none, zeros-total, every_at, every_of, total-append, zero-sum}
use Rattle.codec.proofs.FlagLaws.{every_turn}
use Rattle.reset.specs.Config.{Config, places}
use Rattle.link.specs.Image.{items_test, link_test, sized}
use Rattle.link.proofs.Laws.{link_parts, link-idle, items-few}
use Rattle.area.specs.Layout.{link_bytes, link_test_at, links_test}
use Rattle.area.proofs.Parts.{link-long}

-- ---- runs of zeros
-- a run in two parts
run_split : (l : List ℕ) (i w v : ℕ) → all_zero (take (w + v) (drop i l)) ≡ (all_zero (take w (drop i l)) && all_zero (take v (drop (i + w) l)))
run_split l i w v = rw (take-add, drop-drop, total-append) (zero-sum (total (take w (drop i l))) (total (take v (drop (i + w) l))))

drop-take : (n m : ℕ) (l : List ℕ) → n ≤ length l → drop n (take (n + m) l) ≡ take m (drop n l)
drop-take n m l h = ap (drop n) (take-add n m l) ∙ drop_at (take n l) (take m (drop n l)) n (rw length-take (omega arith))

-- ---- one link more
-- the links before number k are right exactly when there are zeros from `from` to it
abbrev pub Read : Config → List ℕ → ℕ → ℕ → Type 0
Read c a k from = (from ≤ 888 + k * 715) × (every k (link_test_at c a) ≡ all_zero (take (888 + k * 715 - from) (drop from a)))

pub read_none : (c : Config) (a : List ℕ) → Read c a 0 888
read_none c a = (omega arith, every_none (link_test_at c a) ∙ sym (eq-eqb (total []) 0 (zeros-total 0)))

module _ (c : Config) (a : List ℕ) (long : length a ≡ 65536) where
  link-count : (k : ℕ) → get_or (link_bytes a k) 0 0 ≡ get_or a (888 + k * 715) 0
  unfolding link_bytes
  link-count k = let e : 888 + k * 715 + 0 ≡ 888 + k * 715 = omega arith in get_or-take 715 (drop (888 + k * 715) a) 0 0 (omega arith) ∙ get_or-drop (888 + k * 715) a 0 0 ∙ ap (λ (i : ℕ). get_or a i 0) e

  -- that holds nothing
  pub idle_turn : (k from : ℕ) → k < 64 → Read c a k from → get_or a (888 + k * 715) 0 ≡ 0 → Read c a (k + 1) from
  unfolding link_bytes
  idle_turn k from h r e =
      let o : ℕ = 888 + k * 715 in
      let m : 888 + (k + 1) * 715 - from ≡ o - from + 715 = omega (arith, r.0) in
      let f : from + (o - from) ≡ o = omega (arith, r.0) in
      let i : link_test c (k / 8) (k % 8) (link_bytes a k) ≡ all_zero (link_bytes a k) = link-idle c (k / 8) (k % 8) (link_bytes a k) (omega (arith, link-long a long k h)) (link-count k ∙ e) in
      (omega (arith, r.0), every_turn k (link_test_at c a) ∙ rw (r.1, i, m, run_split a from (o - from) 715, f))

  -- what stands behind its items
  tail : (k d : ℕ) → k < 64 → d ≤ 34
      → drop (1 + d * 21) (link_bytes a k) ≡ take (888 + (k + 1) * 715 - (888 + k * 715 + (1 + d * 21))) (drop (888 + k * 715 + (1 + d * 21)) a)
  unfolding link_bytes
  tail k d h s =
      let m : 1 + d * 21 + (714 - d * 21) ≡ 715 = omega arith in
      let n : 888 + (k + 1) * 715 - (888 + k * 715 + (1 + d * 21)) ≡ 714 - d * 21 = omega arith in
      let g : 1 + d * 21 ≤ length (drop (888 + k * 715) a) = rw length-drop (omega arith) in
      rw (n, ← drop-drop (1 + d * 21) (888 + k * 715) a) (rw m at (drop-take (1 + d * 21) (714 - d * 21) (drop (888 + k * 715) a) g))

  -- that holds items: those before are right, and it is right exactly when there are zeros behind its items
  pub busy_turn : (k from : ℕ) → k < 64 → Read c a k from → places c (k / 8) (k % 8) ≤ 34
      → (items_test (places c (k / 8) (k % 8)) (sized c.n c.t) (link_bytes a k) && all_zero (take (888 + k * 715 - from) (drop from a))) ≡ true
      → Read c a (k + 1) (888 + k * 715 + (1 + get_or a (888 + k * 715) 0 * 21))
  busy_turn k from h r few w =
      let o : ℕ = 888 + k * 715 in
      let d : ℕ = get_or a o 0 in
      let p = both (items_test (places c (k / 8) (k % 8)) (sized c.n c.t) (link_bytes a k)) _ w in
      let b : get_or (link_bytes a k) 0 0 ≤ places c (k / 8) (k % 8) = items-few (places c (k / 8) (k % 8)) _ _ p.0 in
      let s : d ≤ 34 = omega (arith, link-count k) in
      (omega arith, every_turn k (link_test_at c a) ∙ rw (r.1, p.1, link_parts c (k / 8) (k % 8) _ (link_bytes a k) refl, p.0, link-count k) (ap all_zero (tail k d h s)))

  -- that holds items, and they or the zeros before it are wrong
  pub stop_turn : (k from : ℕ) → k < 64 → Read c a k from
      → (items_test (places c (k / 8) (k % 8)) (sized c.n c.t) (link_bytes a k) && all_zero (take (888 + k * 715 - from) (drop from a))) ≡ false
      → (links_test c a && all_zero (drop 46648 a)) ≡ false
  unfolding links_test
  stop_turn k from h r w = go (every 64 (link_test_at c a)) refl
    where
      go : (b : Bool) → every 64 (link_test_at c a) ≡ b → (b && all_zero (drop 46648 a)) ≡ false
      go false e = refl
      go true e =
          let t : (items_test (places c (k / 8) (k % 8)) (sized c.n c.t) (link_bytes a k) && all_zero (drop (1 + get_or (link_bytes a k) 0 0 * 21) (link_bytes a k))) ≡ true
          = sym (link_parts c (k / 8) (k % 8) (places c (k / 8) (k % 8)) (link_bytes a k) refl) ∙ every_at 64 (link_test_at c a) k e h in
          let u : every k (link_test_at c a) ≡ true = every_of k (link_test_at c a) (λ (i : ℕ) (l : i < k). every_at 64 (link_test_at c a) i e (omega arith)) in
          absurd (true≢false (sym (join _ _ (both (items_test (places c (k / 8) (k % 8)) (sized c.n c.t) (link_bytes a k)) _ t).0 (sym r.1 ∙ u)) ∙ w))

  -- the last run reaches to the end
  pub runs_end : (from : ℕ) → Read c a 64 from → (links_test c a && all_zero (drop 46648 a)) ≡ all_zero (take (65536 - from) (drop from a))
  unfolding links_test
  runs_end from r =
      let m : 65536 - from ≡ 46648 - from + 18888 = omega (arith, r.0) in
      let f : from + (46648 - from) ≡ 46648 = omega (arith, r.0) in
      let e : take 18888 (drop 46648 a) ≡ drop 46648 a = take_all 18888 (drop 46648 a) (simp length-drop (omega arith)) in
      rw (r.1, m, run_split a from (46648 - from) 18888, f, e)
