-- What is read of the initial network; the invariant holds of it. Assumes nothing.
use Prim.Native.Nat.{ℕ, zero, suc, ◌<◌}
use mathlib.Core.Path.{◌≡◌, refl, ◌∙◌}
use mathlib.Core.List.{List, []}
use mathlib.Core.Bool.{true, false}
use lib.ListN.{get_or, replicate}
use Rattle.codec.proofs.Stride.{upto_at}
use Rattle.reset.specs.Config.{Config, neighbours}
use Rattle.reset.proofs.ConfigLaws.{Rules, neighbour-small}
use Rattle.reset.specs.Clock.{Clock}
use Rattle.reset.specs.State.{Item, blank_station, station_at, link_at, done_seen}
use Rattle.reset.specs.Network.{initial_station, initial}
use Rattle.reset.proofs.Views.{all_same, none_at}
use Rattle.reset.proofs.Changes.{waiting}
use Rattle.reset.proofs.Invariant.{Invariant}

module _ (K : Clock) (c : Config) where
  pub initial_station_lem : (i : ℕ) → i < 8 → station_at (initial K c) i ≡ initial_station K c i
  unfolding station_at initial
  initial_station_lem i l = upto_at 8 (initial_station K c) i blank_station l

  pub initial-link : (i j : ℕ) → link_at (initial K c) i j ≡ []
  unfolding link_at initial
  initial-link i j = row 8 i
    where
      row : (n i : ℕ) → get_or (get_or (replicate n (replicate {A = List (Item K)} 8 [])) i []) j [] ≡ []
      row zero i = refl
      row (suc n) zero = all_same {A = List (Item K)} 8 [] j
      row (suc n) (suc i) = row n i

  pub initial-waiting : (i j : ℕ) → waiting (initial K c) i j ≡ []
  initial-waiting i j = rw (initial-link i j)

  module _ (u : Rules c) where
    initial-done : (i j : ℕ) → neighbours c i j ≡ true → done_seen (initial_station K c i) j ≡ true
    initial-done i j h = upto_at 8 (neighbours c i) j false (neighbour-small c u i j h) ∙ h

    pub initial-invariant : Invariant c (initial K c)
    initial-invariant =
        record {
          flow = λ i j h.
              let ji = u.both_ways i j h in
              rw (initial_station_lem i (neighbour-small c u j i ji), initial_station_lem j (neighbour-small c u i j h), initial-link, none_at, initial-done j i ji) (refl, refl);
          seen = λ i j h k. rw (initial_station_lem i (neighbour-small c u j i (u.both_ways i j h))) (initial-done i j h);
        }
