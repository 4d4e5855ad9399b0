use Prim.Native.Nat.{ℕ, ◌+◌, ◌%◌, ◌<◌}
use mathlib.Core.Path.{◌≡◌, refl}
use mathlib.Core.List.{List}
use mathlib.Core.Bool.{Bool, true, false, ◌&&◌}
use native.Mathlib.Omega.{arith}
use native.Mathlib.Decide.{ℕ_discrete}
use lib.Dec.{eqb}
use lib.ListN.{get_or}
use borrow.Author.Tests.{eqb-false, eq-eqb}
use Rattle.phase_order.proofs.first_join.Invariants.{None}
use Rattle.phase_order.proofs.first_join.Goals as goal

none_more : {table reached : List ℕ} {i : ℕ} → None table reached i → (eqb (get_or table i 0 % 2) 1 && eqb (get_or reached (i % 8) 0) 0) ≡ false → None table reached (i + 1)
none_more {table} {reached} {i} h e = record { even = λ j l z. go j l z (ℕ_discrete j i) }
  where
    go : (j : ℕ) → j < i + 1 → get_or reached (j % 8) 0 ≡ 0 → Dec (j ≡ i) → get_or table j 0 % 2 ≡ 0
    go j l z (no d) = h.even j (omega (arith, d)) z
    go j l z (yes d) =
        let y : get_or reached (i % 8) 0 ≡ 0 = rw d at z in
        let f : eqb (get_or table i 0 % 2) 1 ≡ false = alone (eqb (get_or table i 0 % 2) 1) (rw (eq-eqb (get_or reached (i % 8) 0) 0 y) at e) in
        rw d (omega (arith, eqb-false (get_or table i 0 % 2) 1 f))
      where
        alone : (b : Bool) → (b && true) ≡ false → b ≡ false
        alone true q = q
        alone false q = refl

pub loop-i-init : goal.loop-i-init
loop-i-init c = record { even = λ j l. absurd (omega arith) }

pub returns-then-table-i : goal.returns-then-table-i
returns-then-table-i c = (omega arith, λ j l. c.loop-i.invariant.even j (omega arith))

pub loop-i-preserved : goal.loop-i-preserved
loop-i-preserved c = none_more c.loop-i.invariant c.if-table-i.false

pub returns : goal.returns
returns c j l = c.loop-i.invariant.even j (omega arith)
