-- Laws of `merged`. Assumes nothing.
use Prim.Native.Nat.{ℕ, zero, suc, max, ◌<◌, ◌≤◌}
use mathlib.Core.Path.{◌≡◌, refl}
use mathlib.Core.List.{List, [], ◌∷◌}
use native.Mathlib.Omega.{arith}
use lib.ListN.{length, get_or}
use Rattle.clock.specs.Timestamp.{merged}

pub merged-length : (v w : List ℕ) → length (merged v w) ≡ length v
merged-length [] w = refl
merged-length (a ∷ v) [] = refl
merged-length (a ∷ v) (b ∷ w) = omega (arith, merged-length v w)

-- each count of a merge is the greater of the two
pub merged_at : (v w : List ℕ) (k : ℕ) → k < length v → get_or (merged v w) k 0 ≡ max (get_or v k 0) (get_or w k 0)
merged_at [] w k h = absurd (omega arith)
merged_at (a ∷ v) [] k h = omega arith
merged_at (a ∷ v) (b ∷ w) zero h = refl
merged_at (a ∷ v) (b ∷ w) (suc k) h = merged_at v w k (omega arith)

-- and no place, also past the first's, has more than that
pub merged-most : (v w : List ℕ) (k : ℕ) → get_or (merged v w) k 0 ≤ max (get_or v k 0) (get_or w k 0)
merged-most [] w k = omega arith
merged-most (a ∷ v) [] k = omega arith
merged-most (a ∷ v) (b ∷ w) zero = omega arith
merged-most (a ∷ v) (b ∷ w) (suc k) = merged-most v w k
