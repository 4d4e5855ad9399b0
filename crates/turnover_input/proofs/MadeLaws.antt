-- Commands made of numbers. Assumes nothing.
use Prim.Native.Nat.{ℕ, ◌<◌}
use mathlib.Core.Path.{◌≡◌}
use mathlib.Core.Bool.{true, ◌&&◌}
use lib.Dec.{ltb}
use borrow.Author.Tests.{ltb-true}
use Rattle.codec.proofs.EveryLaws.{both}

-- tests of two numbers, of three
pub below2 : (a p b q : ℕ) → (ltb a p && ltb b q) ≡ true → (a < p) × (b < q)
below2 a p b q e = let h = both _ _ e in (ltb-true a p h.0, ltb-true b q h.1)

pub below3 : (a p b q c r : ℕ) → ((ltb a p && ltb b q) && ltb c r) ≡ true → (a < p) × (b < q) × (c < r)
below3 a p b q c r e = let h = both _ _ e in let g = below2 a p b q h.0 in (g.0, g.1, ltb-true c r h.1)
