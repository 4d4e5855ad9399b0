-- Which stations can be reached over neighbours: as a path, and as a test that spreads from station 0. The link limits are a table m, a row for each
-- sender. Assumes nothing.
use Rattle.std.specs.Prelude.{ℕ, zero, suc, ◌+◌, ◌<◌, ◌≡◌, List, [], ◌∷◌, Bool, true, not, cond, ◌&&◌, eqb, ltb, get_or, set, replicate}
use Rattle.codec.specs.Every.{every}

-- the limit of the link from i to j
unfoldable pub limit : List (List ℕ) → ℕ → ℕ → ℕ
limit m i j = get_or (get_or m i []) j 0

-- there is a link from i to j: its limit is not 0
unfoldable pub linked : List (List ℕ) → ℕ → ℕ → Bool
linked m i j = not (eqb (limit m i j) 0)

-- a path of links from station i
pub data Path (m : List (List ℕ)) (i : ℕ) : ℕ → Type 0 where
  here : Path m i i
  further : {j k : ℕ} → Path m i j → linked m j k ≡ true → Path m i k

-- every station can be reached from station 0
abbrev pub Reached : ℕ → List (List ℕ) → Type 0
Reached n m = (i : ℕ) → i < n → Path m 0 i

-- ---- the test, on a list `seen` of eight numbers
-- station i is reached: its number is not 0
abbrev pub is_seen : List ℕ → ℕ → Bool
is_seen seen i = not (eqb (get_or seen i 0) 0)

-- no reached station has a link to j
unfoldable pub apart : List (List ℕ) → List ℕ → ℕ → Bool
apart m seen j = every 8 (λ (i : ℕ). not (is_seen seen i && linked m i j))

-- station j is not reached, and a reached one has a link to it
unfoldable pub joins : List (List ℕ) → List ℕ → ℕ → Bool
joins m seen j = eqb (get_or seen j 0) 0 && not (apart m seen j)

-- the least number below n at which p holds, or n
unfoldable pub first : ℕ → (ℕ → Bool) → ℕ
first zero p = 0
first (suc n) p = cond (p 0) 0 (suc (first n (λ (i : ℕ). p (suc i))))

-- how many stations are not reached
unfoldable pub unseen : List ℕ → ℕ
unseen [] = 0
unseen (x ∷ l) = cond (eqb x 0) 1 0 + unseen l

-- at most k times, the first station that joins is reached
unfoldable pub spread_by : ℕ → List (List ℕ) → List ℕ → List ℕ
spread_by zero m seen = seen
spread_by (suc k) m seen = cond (ltb (first 8 (joins m seen)) 8) (spread_by k m (set seen (first 8 (joins m seen)) 1)) seen

-- all that can be reached from those in `seen`: with each that joins, one fewer is left
abbrev pub reached : List (List ℕ) → List ℕ → List ℕ
reached m seen = spread_by (unseen seen) m seen

-- station 0 alone
abbrev pub zero_alone : List ℕ
zero_alone = 1 ∷ replicate 7 0

-- the stations below n are reached from station 0
unfoldable pub every_reached : ℕ → List (List ℕ) → Bool
every_reached n m = every n (is_seen (reached m zero_alone))
