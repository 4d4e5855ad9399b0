-- The verdict by two flags, and the tests of counts as facts. Assumes nothing.
use Prim.Native.Nat.{ℕ, ◌+◌, ◌≤◌, ◌<◌}
use mathlib.Core.Path.{◌≡◌, sym}
use mathlib.Core.Logic.{◌↔◌}
use mathlib.Core.Bool.{Bool, true, false, not, ◌&&◌, ◌||◌, not-not}
use mathlib.Core.List.{List}
use native.Mathlib.Omega.{arith}
use native.Mathlib.Decide.{dec_lt}
use lib.Dec.{leb, ltb}
use lib.ListN.{length, get_or, get_or-eq_default}
use borrow.Author.Tests.{leb-true, le-leb}
use Rattle.codec.specs.Every.{every}
use Rattle.codec.proofs.EveryLaws.{every_at, every_of}
use Rattle.codec.proofs.FlagLaws.{every_turn, every_both, eqb_both, leb-not-ltb, not_or}
use Rattle.clock.specs.Order.{same_at, no_greater_at, same_counts, no_greater, verdict_of, by_flags}

-- a turn: some count so far is less, or the next one is
pub less_turn : (v w : List ℕ) (i : ℕ) (less : Bool) → not less ≡ every i (no_greater_at w v) → not (less || ltb (get_or v i 0) (get_or w i 0)) ≡ every (i + 1) (no_greater_at w v)
less_turn v w i less h = rw (every_turn, not_or, h, leb-not-ltb (get_or w i 0) (get_or v i 0))

same_both : (v w : List ℕ) → same_counts v w ≡ (no_greater v w && no_greater w v)
unfolding same_counts no_greater
same_both v w = every_both (same_at v w) (no_greater_at v w) (no_greater_at w v) (λ (k : ℕ). eqb_both (get_or v k 0) (get_or w k 0)) 8

-- the verdict by the two flags
pub by_flags_lem : (v w : List ℕ) (less greater : Bool) → not less ≡ no_greater w v → not greater ≡ no_greater v w → by_flags less greater ≡ verdict_of v w
unfolding verdict_of
by_flags_lem v w true true h g = rw (same_both, ← h, ← g)
by_flags_lem v w true false h g = rw (same_both, ← h, ← g)
by_flags_lem v w false true h g = rw (same_both, ← h, ← g)
by_flags_lem v w false false h g = rw (same_both, ← h, ← g)

pub verdict_flags : (v w : List ℕ) → verdict_of v w ≡ by_flags (not (no_greater w v)) (not (no_greater v w))
verdict_flags v w = sym (by_flags_lem v w (not (no_greater w v)) (not (no_greater v w)) (not-not (no_greater w v)) (not-not (no_greater v w)))

-- ---- the tests as facts
-- every count is at most f: tested for the first eight, where there are no more
counts-at_most : (v : List ℕ) (f : ℕ → ℕ) → length v ≤ 8 → (every 8 (λ (k : ℕ). leb (get_or v k 0) (f k)) ≡ true) ↔ ((k : ℕ) → get_or v k 0 ≤ f k)
counts-at_most v f s = (to, λ (h : (k : ℕ) → get_or v k 0 ≤ f k). every_of 8 _ (λ (k : ℕ) (l : k < 8). le-leb _ _ (h k)))
  where
    to : every 8 (λ (k : ℕ). leb (get_or v k 0) (f k)) ≡ true → (k : ℕ) → get_or v k 0 ≤ f k
    to e k = go (dec_lt k 8)
      where
        go : Dec (k < 8) → get_or v k 0 ≤ f k
        go (yes l) = leb-true (get_or v k 0) (f k) (every_at 8 _ k e l)
        go (no n) = let z : get_or v k 0 ≡ 0 = get_or-eq_default v 0 (omega arith) in omega arith

pub no_greater_lem : (v w : List ℕ) → length v ≤ 8 → (no_greater v w ≡ true) ↔ ((k : ℕ) → get_or v k 0 ≤ get_or w k 0)
unfolding no_greater
no_greater_lem v w s = counts-at_most v (λ (k : ℕ). get_or w k 0) s
