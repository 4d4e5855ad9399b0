-- What a planner may rely on of verdicts: the other way round they are mirrored, and within one phase they are timestamp order. Assumes nothing.
use Prim.Native.Nat.{ℕ, ◌≤◌, ◌<◌}
use mathlib.Core.Path.{◌≡◌, refl, sym, ◌∙◌}
use mathlib.Core.List.{List}
use mathlib.Core.Bool.{Bool, true, false, cond}
use native.Mathlib.Omega.{arith}
use native.Mathlib.Decide.{dec_lt}
use lib.Dec.{ltb}
use borrow.Author.Tests.{eq-eqb, ne_eqb, le-ltb, lt-ltb}
use Rattle.clock.specs.Order.{verdict_of, mirror}
use Rattle.clock.specs.declared.Verdict.TheVariants.{Before, After, Unordered}
use Rattle.clock.proofs.OrderLaws.{verdict_mirror}
use Rattle.record.specs.declared.Record.{Record}
use Rattle.archive.specs.Archive.{archive_test, records}
use Rattle.events.specs.Events.{event_at}
use Rattle.std.specs.Prelude.{Result, Ok, Err}
use Rattle.clock.specs.declared.Verdict.{Verdict}
use Rattle.refusals.specs.declared.Refusal.{Refusal}
use Rattle.well_kept.specs.WellKept.{well_kept}
use Rattle.phase_order.specs.PhaseOrder.{precedes, verdict_between}
use Rattle.phase_order.specs.ByNumber.{order_of}

-- ---- two events
module _ (a : List ℕ) (x y : Record) where
  -- nothing precedes an event of its own phase or of an earlier one
  pub never_back : y.phase ≤ x.phase → precedes a x y ≡ false
  unfolding precedes
  never_back l = rw (le-ltb x.phase y.phase l)

  pub one_phase : x.phase ≡ y.phase → verdict_between a x y ≡ verdict_of x.counts y.counts
  unfolding verdict_between
  one_phase e = rw (eq-eqb x.phase y.phase e)

  other-phase : (x.phase ≡ y.phase → ⊥) → verdict_between a x y ≡ cond (precedes a x y) Before (cond (precedes a y x) After Unordered)
  unfolding verdict_between
  other-phase d = rw (ne_eqb x.phase y.phase d)

pub earlier : (a : List ℕ) (x y : Record) → x.phase < y.phase → verdict_between a x y ≡ cond (precedes a x y) Before Unordered
earlier a x y l = other-phase a x y (λ e. omega arith) ∙ rw (never_back a y x (omega arith))

pub later : (a : List ℕ) (x y : Record) → y.phase < x.phase → verdict_between a x y ≡ cond (precedes a y x) After Unordered
later a x y l = other-phase a x y (λ e. omega arith) ∙ rw (never_back a x y (omega arith))

-- the other way round
pub between-mirror : (a : List ℕ) (x y : Record) → verdict_between a y x ≡ mirror (verdict_between a x y)
between-mirror a x y = go (dec_lt x.phase y.phase) (dec_lt y.phase x.phase)
  where
    flip : (b : Bool) → cond b After Unordered ≡ mirror (cond b Before Unordered)
    flip true = refl
    flip false = refl

    flop : (b : Bool) → cond b Before Unordered ≡ mirror (cond b After Unordered)
    flop true = refl
    flop false = refl

    go : Dec (x.phase < y.phase) → Dec (y.phase < x.phase) → verdict_between a y x ≡ mirror (verdict_between a x y)
    go (yes l) m = rw (later a y x l, earlier a x y l) (flip (precedes a x y))
    go (no l) (yes m) = rw (earlier a y x m, later a x y m) (flop (precedes a y x))
    go (no l) (no m) =
        let e : x.phase ≡ y.phase = omega (arith, l, m) in
        rw (one_phase a y x (sym e), one_phase a x y e) (verdict_mirror x.counts y.counts)

-- ---- by number
abbrev pub mirrored : Result Verdict Refusal → Result Verdict Refusal
mirrored (Ok v) = Ok (mirror v)
mirrored (Err k) = Err k

pub order-mirror : (a : List ℕ) (i j : ℕ) → order_of a j i ≡ mirrored (order_of a i j)
unfolding order_of
order-mirror a i j = go (archive_test a) refl (ltb i (records a)) refl (ltb j (records a)) refl (well_kept a) refl
  where
    go : (t : Bool) → archive_test a ≡ t → (b : Bool) → ltb i (records a) ≡ b → (c : Bool) → ltb j (records a) ≡ c → (k : Bool) → well_kept a ≡ k → order_of a j i ≡ mirrored (order_of a i j)
    go false t b e c f k w = rw t
    go true t false e false f false w = simp (t, w, e, f)
    go true t false e false f true w = simp (t, w, e, f)
    go true t false e true f false w = simp (t, w, e, f)
    go true t false e true f true w = simp (t, w, e, f)
    go true t true e false f false w = simp (t, w, e, f)
    go true t true e false f true w = simp (t, w, e, f)
    go true t true e true f false w = simp (t, w, e, f)
    go true t true e true f true w = rw (t, w, e, f, between-mirror a (event_at a i) (event_at a j))

-- a tested archive that is well kept tells the verdict
pub order_is : (a : List ℕ) (i j : ℕ) → archive_test a ≡ true → i < records a → j < records a → well_kept a ≡ true → order_of a i j ≡ Ok (verdict_between a (event_at a i) (event_at a j))
unfolding order_of
order_is a i j t l m k = rw (t, lt-ltb i (records a) l, lt-ltb j (records a) m, k)

-- within one phase: timestamp order
pub order_one_phase : (a : List ℕ) (i j : ℕ) → archive_test a ≡ true → i < records a → j < records a → well_kept a ≡ true → (event_at a i).phase ≡ (event_at a j).phase
    → order_of a i j ≡ Ok (verdict_of (event_at a i).counts (event_at a j).counts)
order_one_phase a i j t l m k e = order_is a i j t l m k ∙ rw (one_phase a (event_at a i) (event_at a j) e)
