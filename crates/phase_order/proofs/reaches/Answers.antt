use Prim.Native.Nat.{ℕ, ◌+◌, ◌-◌, ◌≤◌}
use mathlib.Core.Path.{◌≡◌, refl, sym, ◌∙◌}
use mathlib.Core.List.{List}
use native.Mathlib.Omega.{arith}
use lib.ListN.{length, length-take}
use lib.Seq.{length_front}
use Rattle.record.specs.declared.Record.{Record}
use Rattle.archive.specs.Archive.{records}
use Rattle.phase_order.specs.Passes.{NoneMeets}
use Rattle.phase_order.proofs.ReachLaws.{skips, early-yes, last_told}
use Rattle.phase_order.proofs.reaches.Invariants.{Reached}
use Rattle.phase_order.proofs.reaches.Goals as goal
use Rattle.phase_order.proofs.reaches.Goals.{At-loop-from}

reached-skips : {a : List ℕ} {x : Record} {f : ℕ} {r : List ℕ} → Reached a x f r → (g : ℕ) → f ≤ g → NoneMeets a r f g (records a) → Reached a x g r
reached-skips {a} {x} {f} w g l h =
    let e : x.phase + 1 + (w.rounds + (g - f)) ≡ g = omega (arith, w.phase) in
    record { rounds = w.rounds + (g - f); phase = e; are = skips a x (w.rounds + (g - f)) w.are w.phase l e h }

-- ---- at the loop
module _ (c : goal.At-loop-from) where
  long : length c.loop-from.table ≡ length c.args.table.now
  long = c.loop-from.invariant.3 ∙ length_front c.args.table.now c.reached_first-reached.new.table 8 c.reached_first-reached.ensures.0

  -- the stations that x reaches before the phase that the loop stands at
  here : Reached c.args.archive.bytes.now c.args.x.record c.loop-from.from c.loop-from.reached
  here = c.loop-from.invariant.4 c.args.x.record (record { rounds = 0; phase = omega arith; are = c.reached_first-reached.ensures.1 })

pub reached_first-reached-requires : goal.reached_first-reached-requires
reached_first-reached-requires c =
    (rw length-take (omega (arith, c.requires.1)))

pub loop-from-init : goal.loop-from-init
loop-from-init c = (omega arith, omega arith, omega arith, refl, λ x w. w)

pub shape_of-table-then-meets : goal.shape_of-table-then-meets
shape_of-table-then-meets c = long (goal.at.shape_of-table-then-meets c).At-loop-from

pub returns-then-meets : goal.returns-then-meets
returns-then-meets c =
    let p = (goal.at.returns-then-meets c).At-loop-from in
    sym (early-yes c.args.archive.bytes.now c.args.x.record c.args.y.record c.requires.0 (here p).are (omega (arith, (here p).phase, c.loop-from.invariant.2)) (sym c.meets.ensures ∙ c.if-meets.true))

pub next_phase-requires : goal.next_phase-requires
next_phase-requires c = c.loop-from.invariant.2

pub shape_of-table-in_default : goal.shape_of-table-in_default
shape_of-table-in_default c = long (goal.at.shape_of-table-in_default c).At-loop-from

pub returns-in_default : goal.returns-in_default
returns-in_default c =
    let p = (goal.at.returns-in_default c).At-loop-from in
    let w = reached-skips (here p) c.args.y.record.phase c.loop-from.invariant.2 c.in_default.ensures in
    sym (sym (last_told c.args.archive.bytes.now c.args.x.record c.args.y.record c.requires.0 w.are w.phase) ∙ (sym c.meets.ensures ∙ c.if-meets.false))

pub spread_on-s-requires : goal.spread_on-s-requires
spread_on-s-requires c = (c.in-Some.ensures.1, c.loop-from.invariant.0, omega (arith, long (goal.at.spread_on-s-requires c).At-loop-from, c.requires.1))

pub overflow_mul-phases : goal.overflow_mul-phases
overflow_mul-phases c = omega (arith, c.loop-from.invariant.1)

pub loop-from-smaller : goal.loop-from-smaller
loop-from-smaller c = omega (arith, c.spread_on-s.ensures.1, c.spread_on-s.ensures.2, c.in-Some.ensures.0)

pub loop-from-preserved : goal.loop-from-preserved
loop-from-preserved c =
    let g = c.spread_on-s.ensures in (
      omega (arith, c.min-phases.ensures, c.loop-from.invariant.0),
      omega (arith, c.min-phases.ensures),
      g.2,
      g.0 ∙ c.loop-from.invariant.3,
      λ x w. let t = reached-skips (c.loop-from.invariant.4 x w) c.in-Some.next c.in-Some.ensures.0 c.in-Some.ensures.2 in
          let e : x.phase + 1 + (c.spread_on-s.result.next - (x.phase + 1)) ≡ c.spread_on-s.result.next = omega (arith, t.phase, g.1) in
          record { rounds = c.spread_on-s.result.next - (x.phase + 1); phase = e; are = g.3 x t.rounds t.phase t.are (c.spread_on-s.result.next - (x.phase + 1)) e },
    )

pub shape_of-table : goal.shape_of-table
shape_of-table c = long (goal.at.shape_of-table c).At-loop-from

pub returns : goal.returns
returns c =
    let p = (goal.at.returns c).At-loop-from in
    c.meets-2.ensures ∙ last_told c.args.archive.bytes.now c.args.x.record c.args.y.record c.requires.0 (here p).are (omega (arith, (here p).phase, c.loop-from.invariant.2, c.loop-from-test.false))
