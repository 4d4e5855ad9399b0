-- What is read of a state after each change of it. Assumes nothing.
use Prim.Native.Nat.{ℕ, zero, suc, ◌≤◌, ◌<◌}
use mathlib.Core.Path.{◌≡◌, refl, ap, ◌∙◌}
use mathlib.Core.Logic.{◌≢◌}
use mathlib.Core.List.{List, [], ◌∷◌, ◌++◌}
use mathlib.Core.Bool.{Bool, true, false}
use native.Mathlib.Omega.{arith}
use native.Mathlib.Decide.{ℕ_discrete}
use lib.ListN.{length, get_or, replicate}
use Rattle.codec.proofs.PutLaws.{put_same, put_other}
use Rattle.clock.specs.Timestamp.{zeros}
use Rattle.reset.specs.Config.{Config, neighbours}
use Rattle.reset.specs.Clock.{Clock}
use Rattle.reset.proofs.Cases.{by_test, by_dec}
use Rattle.reset.specs.State.{Item, Station, State, none_seen, blank_station, station_at, link_at, set_station, set_link, put_linked, put_first, put_on_all}

-- ---- lists
pub all_same : {A : Type 0} (n : ℕ) (d : A) (i : ℕ) → get_or (replicate n d) i d ≡ d
all_same zero d i = refl
all_same (suc n) d zero = refl
all_same (suc n) d (suc i) = all_same n d i

pub zeros_at : (j : ℕ) → get_or zeros j 0 ≡ 0
unfolding zeros
zeros_at j = all_same {A = ℕ} 8 0 j

pub none_at : (j : ℕ) → get_or none_seen j false ≡ false
unfolding none_seen
none_at j = all_same {A = Bool} 8 false j

pub none_long : {A : Type 0} (l : List A) → length l ≡ 0 → l ≡ []
none_long [] h = refl
none_long (x ∷ l) h = absurd (omega arith)

-- ---- a station's record replaced
module _ {K : Clock} (s : State K) (i : ℕ) (x : Station K) where
  pub station-set : station_at (set_station s i x) i ≡ x
  unfolding station_at set_station
  station-set = put_same blank_station s.stations i x

  pub station-set-other : (k : ℕ) → k ≢ i → station_at (set_station s i x) k ≡ station_at s k
  unfolding station_at set_station
  station-set-other k h = put_other blank_station s.stations i k x h

  pub link_set-station : (a b : ℕ) → link_at (set_station s i x) a b ≡ link_at s a b
  unfolding link_at set_station
  link_set-station a b = refl

-- ---- a link replaced
module _ {K : Clock} (s : State K) (i j : ℕ) (q : List (Item K)) where
  pub station-set_link : (k : ℕ) → station_at (set_link s i j q) k ≡ station_at s k
  unfolding station_at set_link
  station-set_link k = refl

  pub link_set_lem : link_at (set_link s i j q) i j ≡ q
  unfolding link_at set_link
  link_set_lem = rw put_same (put_same [] (get_or s.links i []) j q)

  pub link_set-row : (a b : ℕ) → a ≢ i → link_at (set_link s i j q) a b ≡ link_at s a b
  unfolding link_at set_link
  link_set-row a b h = ap (λ (r : List (List (Item K))). get_or r b []) (put_other [] s.links i a _ h)

  pub link_set_col : (b : ℕ) → b ≢ j → link_at (set_link s i j q) i b ≡ link_at s i b
  unfolding link_at set_link
  link_set_col b h = rw put_same (put_other [] (get_or s.links i []) j b q h)

-- ---- an item put on every link out of a station
module _ {K : Clock} (c : Config) (i : ℕ) (x : Item K) where
  station-put_linked : (s : State K) (j k : ℕ) → station_at (put_linked c s i j x) k ≡ station_at s k
  unfolding put_linked
  station-put_linked s j k = by_test (neighbours c i j) (λ e. rw e (station-set_link s i j _ k)) (λ e. rw e)

  link-put_linked : (s : State K) (j : ℕ) → neighbours c i j ≡ true → link_at (put_linked c s i j x) i j ≡ link_at s i j ++ (x ∷ [])
  unfolding put_linked
  link-put_linked s j h = rw h (link_set_lem s i j _)

  link-put_linked_far : (s : State K) (j : ℕ) → neighbours c i j ≡ false → link_at (put_linked c s i j x) i j ≡ link_at s i j
  unfolding put_linked
  link-put_linked_far s j h = rw h

  link-put_linked-row : (s : State K) (j a b : ℕ) → a ≢ i → link_at (put_linked c s i j x) a b ≡ link_at s a b
  unfolding put_linked
  link-put_linked-row s j a b n = by_test (neighbours c i j) (λ e. rw e (link_set-row s i j _ a b n)) (λ e. rw e)

  link-put_linked_col : (s : State K) (j b : ℕ) → b ≢ j → link_at (put_linked c s i j x) i b ≡ link_at s i b
  unfolding put_linked
  link-put_linked_col s j b n = by_test (neighbours c i j) (λ e. rw e (link_set_col s i j _ b n)) (λ e. rw e)

  -- over the links to 0 .. k - 1
  module _ (s : State K) where
    station_first : (m k : ℕ) → station_at (put_first m c s i x) k ≡ station_at s k
    unfolding put_first
    station_first zero k = refl
    station_first (suc m) k = station-put_linked (put_first m c s i x) m k ∙ station_first m k

    link_first_row : (m a b : ℕ) → a ≢ i → link_at (put_first m c s i x) a b ≡ link_at s a b
    unfolding put_first
    link_first_row zero a b n = refl
    link_first_row (suc m) a b n = link-put_linked-row (put_first m c s i x) m a b n ∙ link_first_row m a b n

    -- not yet reached, or no neighbour
    pub link-first_past : (m b : ℕ) → m ≤ b → link_at (put_first m c s i x) i b ≡ link_at s i b
    unfolding put_first
    link-first_past zero b l = refl
    link-first_past (suc m) b l = link-put_linked_col (put_first m c s i x) m b (omega arith) ∙ link-first_past m b (omega arith)

    link_first_far : (m b : ℕ) → neighbours c i b ≡ false → link_at (put_first m c s i x) i b ≡ link_at s i b
    unfolding put_first
    link_first_far zero b h = refl
    link_first_far (suc m) b h =
        by_dec (ℕ_discrete b m) (λ p. rw p (link-put_linked_far (put_first m c s i x) m (rw p at h))) (λ p. link-put_linked_col (put_first m c s i x) m b p)
        ∙ link_first_far m b h

    link_first : (m b : ℕ) → b < m → neighbours c i b ≡ true → link_at (put_first m c s i x) i b ≡ link_at s i b ++ (x ∷ [])
    unfolding put_first
    link_first zero b l h = absurd (omega arith)
    link_first (suc m) b l h =
        by_dec (ℕ_discrete b m)
        (λ p. rw p (link-put_linked (put_first m c s i x) m (rw p at h) ∙ rw (link-first_past m m (omega arith))))
        (λ p. link-put_linked_col (put_first m c s i x) m b p ∙ link_first m b (omega arith) h)

module _ {K : Clock} (c : Config) (s : State K) (i : ℕ) (x : Item K) where
  pub station-put_all : (k : ℕ) → station_at (put_on_all c s i x) k ≡ station_at s k
  unfolding put_on_all
  station-put_all k = station_first c i x s 8 k

  pub link-put_all : (b : ℕ) → b < 8 → neighbours c i b ≡ true → link_at (put_on_all c s i x) i b ≡ link_at s i b ++ (x ∷ [])
  unfolding put_on_all
  link-put_all b l h = link_first c i x s 8 b l h

  pub link-put_all_far : (b : ℕ) → neighbours c i b ≡ false → link_at (put_on_all c s i x) i b ≡ link_at s i b
  unfolding put_on_all
  link-put_all_far b h = link_first_far c i x s 8 b h

  pub link-put_all_row : (a b : ℕ) → a ≢ i → link_at (put_on_all c s i x) a b ≡ link_at s a b
  unfolding put_on_all
  link-put_all_row a b n = link_first_row c i x s 8 a b n
