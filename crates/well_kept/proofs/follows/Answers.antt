use Prim.Native.Nat.{ℕ, ◌+◌, ◌-◌, ◌<◌}
use mathlib.Core.Path.{◌≡◌}
use native.Mathlib.Omega.{arith}
use lib.Dec.{eqb}
use borrow.Author.Tests.{le-ltb, lt-ltb, eqb-true, eq-eqb}
use Rattle.codec.proofs.EveryLaws.{bool_iff}
use Rattle.well_kept.specs.Keys.{follows}
use Rattle.well_kept.proofs.follows.Goals as goal

next : (p v : ℕ) → p < v → eqb (v - p) 1 ≡ eqb v (p + 1)
next p v l = bool_iff _ _ (λ h. let e = eqb-true (v - p) 1 h in eq-eqb v (p + 1) (omega arith)) (λ h. let e = eqb-true v (p + 1) h in eq-eqb (v - p) 1 (omega arith))

pub returns-then-p-v : goal.returns-then-p-v
unfolding follows
returns-then-p-v c = rw (lt-ltb c.args.p c.args.v (omega arith), next c.args.p c.args.v (omega arith))

pub returns-else-p-v : goal.returns-else-p-v
unfolding follows
returns-else-p-v c = rw (le-ltb c.args.p c.args.v (omega arith))
