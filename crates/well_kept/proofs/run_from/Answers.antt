use Prim.Native.Nat.{ℕ, ◌+◌, ◌≤◌, ◌<◌}
use mathlib.Core.Path.{◌≡◌, refl, sym, ◌∙◌}
use mathlib.Core.List.{List, [], ◌∷◌}
use mathlib.Core.Bool.{true, false}
use native.Mathlib.Omega.{arith}
use native.Mathlib.Numerals.{add-one}
use lib.ListN.{length, get_or, drop, drop_of_length-le}
use lib.Seq.{drop-cons}
use Rattle.well_kept.specs.Keys.{follows, runs_on, last_from}
use Rattle.well_kept.proofs.run_from.Invariants.{Runs}
use Rattle.well_kept.proofs.run_from.Goals as goal

module _ {last : ℕ} {list : List ℕ} {before i : ℕ} (w : Runs last list before i) where
  here : (key : ℕ) → i < length list → key ≡ get_or list i 0 → drop i list ≡ key ∷ drop (i + 1) list
  here key l e = rw (add-one, e) (drop-cons list i 0 l)

  runs_more : (key : ℕ) → i < length list → key ≡ get_or list i 0 → follows before key ≡ true → Runs last list key (i + 1)
  unfolding runs_on
  runs_more key l e f = record { runs = w.runs ∙ rw (here key l e, f); ends = w.ends ∙ rw (here key l e) }

  runs-not : (key : ℕ) → i < length list → key ≡ get_or list i 0 → follows before key ≡ false → runs_on last list ≡ false
  unfolding runs_on
  runs-not key l e f = w.runs ∙ rw (here key l e, f)

  runs_all : length list ≤ i → (runs_on last list ≡ true) × (last_from last list ≡ before)
  unfolding runs_on
  runs_all l = let e : drop i list ≡ [] = drop_of_length-le list l in (w.runs ∙ rw e, w.ends ∙ rw e)

pub loop-key-init : goal.loop-key-init
loop-key-init c = record { runs = refl; ends = refl }

pub returns-then-not-follows : goal.returns-then-not-follows
returns-then-not-follows c = runs-not c.loop-key.invariant _ (omega arith) refl (sym c.follows.ensures ∙ c.if-not-follows.true)

pub loop-key-preserved : goal.loop-key-preserved
loop-key-preserved c = runs_more c.loop-key.invariant _ (omega arith) refl (sym c.follows.ensures ∙ c.if-not-follows.false)

pub returns : goal.returns
returns c = let e = runs_all c.loop-key.invariant (omega arith) in (e.0, sym e.1)
