use Prim.Native.Nat.{ℕ, min, ◌+◌, ◌/◌, ◌≤◌, ◌<◌}
use mathlib.Core.Path.{◌≡◌, sym, ◌∙◌}
use mathlib.Core.Logic.{⊎_elim}
use mathlib.Core.List.{List}
use native.Mathlib.Omega.{arith}
use native.Mathlib.Decide.{dec_lt}
use native.Mathlib.Nat.{eq-or-lt_of_le}
use lib.ListN.{get_or}
use Rattle.fetch.proofs.Laws.{wanted_of, not-wanted}
use Rattle.fetch.proofs.next_block.Invariants.{Nearest}
use Rattle.fetch.proofs.next_block.Goals as goal
use Rattle.fetch.proofs.next_block.Goals.{then-from-b, else-from-b}

nearest-more : {l : List ℕ} {from until n best : ℕ} → Nearest l from until n best → (r : ℕ) → from ≤ r → r ≤ best → (from ≤ get_or l n 0 / 15 → r ≤ get_or l n 0 / 15) → (r < best → r ≡ get_or l n 0 / 15)
    → Nearest l from until (n + 1) r
nearest-more {l} {from} {until} {n} {best} w r f h s t = record {
  low = f;
  high = omega (arith, w.high);
  none = λ i k e. ⊎_elim (λ (z : i ≡ n). rw z (s (rw z at e))) (λ (z : i < n). omega (arith, w.none i z e)) (eq-or-lt_of_le {n = i} {m = n} (omega arith));
  some = λ b. one b (dec_lt r best);
}
  where
    one : r < until → Dec (r < best) → (i : ℕ) × (i < n + 1) × (get_or l i 0 / 15 ≡ r)
    one b (yes k) = (n, omega arith, sym (t k))
    one b (no k) =
        let e : r ≡ best = omega (arith, k) in
        let q = w.some (omega arith) in
        (q.0, (let m = q.1 in omega arith), q.2 ∙ sym e)

pub loop-k-init : goal.loop-k-init
loop-k-init c = record { low = omega arith; high = omega arith; none = λ i h. absurd (omega arith); some = λ h. absurd (omega arith) }

pub loop-k-preserved : goal.loop-k-preserved
loop-k-preserved c =
    let l = c.loop-k in
    let n = get_or c.args.numbers.now l.k-index 0 in
    elim c.if-from-b.branch [
      | then-from-b w ↦
          let m : c.if-from-b.best ≡ min l.best (n / 15) = w.best-is ∙ w.min-best.ensures in
          nearest-more l.invariant c.if-from-b.best (omega (arith, l.invariant.low)) (omega arith) (λ h. omega arith) (λ h. omega arith)
      | else-from-b w ↦
          nearest-more l.invariant c.if-from-b.best (omega (arith, l.invariant.low)) (omega arith) (λ h. absurd (omega arith)) (λ h. absurd (omega arith))
    ]

pub returns-then-best-until : goal.returns-then-best-until
returns-then-best-until c =
    let l = c.args.numbers.now in
    let w = c.loop-k.invariant in
    let q = w.some c.if-best-until.true in (
      w.low,
      omega arith,
      wanted_of l q.0 c.loop-k.best (let m = q.1 in omega arith) q.2,
      λ b h k. not-wanted l b (λ i m e. omega (arith, w.none i (omega arith) (omega arith))),
    )

pub returns-else-best-until : goal.returns-else-best-until
returns-else-best-until c b h k =
    let w = c.loop-k.invariant in
    not-wanted c.args.numbers.now b (λ i m e. omega (arith, w.none i (omega arith) (omega arith)))
