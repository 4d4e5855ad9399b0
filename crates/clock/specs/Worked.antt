-- Timestamps before and after, with the news computed. Assumes nothing.
use Rattle.std.specs.Prelude.{ℕ, ◌≡◌, refl, List, [], ◌∷◌, replicate}
use Rattle.codec.specs.Every.{count_below}
use Rattle.clock.specs.Timestamp.{zeros, news}

-- four counts, and none of the other stations
abbrev four : ℕ → ℕ → ℕ → ℕ → List ℕ
four a b c d = a ∷ b ∷ c ∷ d ∷ replicate 4 0

pub record News : Type 0 where
  -- nothing grew; the own count alone grew, of the first station and of the last
  pub none : (news 0 (four 3 1 4 1) (four 3 1 4 1) ≡ 0) × (news 0 zeros (four 1 0 0 0) ≡ 0) × (news 7 (replicate 8 5) (5 ∷ 5 ∷ 5 ∷ 5 ∷ 5 ∷ 5 ∷ 5 ∷ 6 ∷ []) ≡ 0)
  -- every other count grew: at the first station, at one between, and at the last
  pub all : (news 0 zeros (replicate 8 1) ≡ 7) × (news 3 zeros (replicate 8 1) ≡ 7) × (news 7 (replicate 8 5) (replicate 8 65535) ≡ 7)
  -- one grew, by however much, and the own count with it
  pub one : (news 1 (four 0 2 0 0) (four 0 3 9 0) ≡ 1) × (news 2 (four 4 0 2 0) (four 5 0 3 0) ≡ 1)
  -- some grew and some stayed
  pub some : (news 0 (four 1 5 5 5) (four 2 6 5 6) ≡ 2) × (news 3 (four 1 5 5 5) (four 2 6 6 6) ≡ 3)

pub news-told : News
unfolding zeros news count_below
news-told = record { none = (refl, refl, refl); all = (refl, refl, refl); one = (refl, refl); some = (refl, refl) }
