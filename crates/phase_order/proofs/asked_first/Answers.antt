use Prim.Native.Nat.{ℕ, ◌<◌}
use mathlib.Core.Path.{◌≡◌, refl, ◌∙◌}
use mathlib.Core.List.{[], ◌∷◌}
use mathlib.Core.Bool.{cond}
use native.Mathlib.Omega.{arith}
use native.Mathlib.Decide.{ℕ_discrete}
use lib.Dec.{eqb}
use lib.ListN.{get_or, set, get_or-replicate}
use lib.Seq.{get_or-set_same, get_or-set_other}
use borrow.Author.Tests.{eq-eqb, ne_eqb}
use Rattle.phase_order.proofs.asked_first.Goals as goal

one : (s c : ℕ) → s < 8 → (k : ℕ) → k < 8 → get_or (set (0 ∷ 0 ∷ 0 ∷ 0 ∷ 0 ∷ 0 ∷ 0 ∷ 0 ∷ []) s c) k 0 ≡ cond (eqb k s) c 0
one s c l k h = go (ℕ_discrete k s)
  where
    go : Dec (k ≡ s) → get_or (set (0 ∷ 0 ∷ 0 ∷ 0 ∷ 0 ∷ 0 ∷ 0 ∷ 0 ∷ []) s c) k 0 ≡ cond (eqb k s) c 0
    go (yes e) = rw (e, eq-eqb s s refl) (get_or-set_same (0 ∷ 0 ∷ 0 ∷ 0 ∷ 0 ∷ 0 ∷ 0 ∷ 0 ∷ []) s c 0 l)
    go (no e) = rw (ne_eqb k s e) (get_or-set_other (0 ∷ 0 ∷ 0 ∷ 0 ∷ 0 ∷ 0 ∷ 0 ∷ 0 ∷ []) s k c 0 e ∙ get_or-replicate 8 k 0 0 h)

pub returns : goal.returns
returns c = one _ _ (omega arith)
