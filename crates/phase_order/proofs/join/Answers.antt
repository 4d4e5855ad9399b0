use Prim.Native.Nat.{ℕ, ◌+◌, ◌*◌, ◌%◌, ◌<◌}
use mathlib.Core.Path.{◌≡◌, refl, ◌∙◌}
use mathlib.Core.List.{List}
use mathlib.Core.Bool.{false, cond}
use native.Mathlib.Omega.{arith}
use native.Mathlib.Decide.{ℕ_discrete}
use lib.Dec.{eqb}
use lib.ListN.{get_or, set, length-set}
use lib.Seq.{get_or-set_same, get_or-set_other}
use borrow.Author.Rules.{rules}
use borrow.Author.Tests.{eq-eqb, ne_eqb}
use Rattle.phase_order.proofs.join.Invariants.{Joined}
use Rattle.phase_order.proofs.join.Goals as goal
use Rattle.phase_order.proofs.join.Goals.{then-table-q-eq1, else-table-q-eq1}

joined-more : {table : List ℕ} {q : ℕ} {before : List ℕ} {k : ℕ} {after : List ℕ} → Joined table q before k after → k < 8 → (x : ℕ)
    → x ≡ cond (eqb (get_or table (q * 8 + k) 0 % 2) 1) 1 (get_or after k 0) → Joined table q before (k + 1) (set after k x)
joined-more {table} {q} {before} {k} {after} w l x e = record {
  long = length-set after k x ∙ w.long;
  done = λ s h. go s h (ℕ_discrete s k);
  left = λ s h. get_or-set_other after k s x 0 (λ d. omega arith) ∙ w.left s (omega arith);
}
  where
    go : (s : ℕ) → s < k + 1 → Dec (s ≡ k) → get_or (set after k x) s 0 ≡ cond (eqb (get_or table (q * 8 + s) 0 % 2) 1) 1 (get_or before s 0)
    go s h (yes d) = rw d (get_or-set_same after k x 0 (omega (arith, w.long)) ∙ (e ∙ rw (w.left k (omega arith))))
    go s h (no d) = get_or-set_other after k s x 0 d ∙ w.done s (omega (arith, d))

joined-same : {table : List ℕ} {q : ℕ} {before : List ℕ} {k : ℕ} {after : List ℕ} → Joined table q before k after
    → eqb (get_or table (q * 8 + k) 0 % 2) 1 ≡ false → Joined table q before (k + 1) after
joined-same {table} {q} {before} {k} {after} w e = record {
  long = w.long;
  done = λ s h. go s h (ℕ_discrete s k);
  left = λ s h. w.left s (omega arith);
}
  where
    go : (s : ℕ) → s < k + 1 → Dec (s ≡ k) → get_or after s 0 ≡ cond (eqb (get_or table (q * 8 + s) 0 % 2) 1) 1 (get_or before s 0)
    go s h (yes d) = rw (d, e) (w.left k (omega arith))
    go s h (no d) = w.done s (omega (arith, d))

pub loop-s-init : goal.loop-s-init
loop-s-init c = record { long = search rules; done = λ s l. absurd (omega arith); left = λ s l. refl }

pub loop-s-preserved : goal.loop-s-preserved
loop-s-preserved c =
    elim c.if-table-q-eq1.branch [
      | then-table-q-eq1 w ↦ rw w.joined-is (joined-more c.loop-s.invariant (omega arith) 1 (rw (eq-eqb _ 1 w.if-table-q-eq1.true)))
      | else-table-q-eq1 w ↦ rw w.joined-is (joined-same c.loop-s.invariant (ne_eqb _ 1 w.if-table-q-eq1.false))
    ]

pub returns : goal.returns
returns c s l = c.loop-s.invariant.done s (omega arith)
