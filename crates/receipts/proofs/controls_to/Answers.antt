use Prim.Native.Nat.{ℕ, ◌+◌}
use mathlib.Core.Path.{◌≡◌, ◌∙◌, sym, ap}
use native.Mathlib.Omega.{arith}
use Rattle.codec.specs.Every.{sum}
use Rattle.codec.proofs.EveryLaws.{sum_none, sum_more}
use Rattle.reset.specs.Receipts.{controls_left}
use Rattle.area.specs.Layout.{config_at, state_at}
use Rattle.receipts.proofs.Laws.{long, phase-most, linked_left, apart_left}
use Rattle.receipts.proofs.controls_to.Goals as goal
use Rattle.receipts.proofs.controls_to.Goals.{then-area-i-ne0, else-area-i-ne0}

pub controls_left-left-requires : goal.controls_left-left-requires
controls_left-left-requires c =
    (omega arith, phase-most c.args.area.now c.requires.0 c.args.j c.requires.1 c.load_station-x.result c.load_station-x.ensures, c.requires.2)

pub loop-i-preserved : goal.loop-i-preserved
loop-i-preserved c =
    let a = c.args.area.now in
    let g = c.args.g in
    let j = c.args.j in
    let x = c.load_station-x.result in
    let i = c.loop-i.i in
    let f : ℕ → ℕ = controls_left (config_at a) (state_at a) g j in
    let m : sum (i + 1) f ≡ sum i f + f i = sum_more i f in (
      omega arith,
      elim c.if-area-i-ne0.branch [
        | then-area-i-ne0 w ↦
            let e = linked_left a c.requires.0 j c.requires.1 x c.load_station-x.ensures i g (omega arith) w.if-area-i-ne0.true in
            omega (arith, w.controls_left-left.ensures.0, w.left-is)
        | else-area-i-ne0 w ↦
            let e = apart_left a c.requires.0 j c.requires.1 x c.load_station-x.ensures i g (omega arith) w.if-area-i-ne0.false in
            omega (arith, w.left-is)
      ],
      elim c.if-area-i-ne0.branch [ then-area-i-ne0 w ↦ omega arith | else-area-i-ne0 w ↦ omega arith ],
    )

pub returns : goal.returns
returns c =
    let g = c.args in
    let e : c.loop-i.i ≡ 8 = omega arith in
    (c.loop-i.invariant.1 ∙ ap (λ (n : ℕ). sum n (controls_left (config_at g.area.now) (state_at g.area.now) g.g g.j)) e, omega arith)

pub load_station-x-requires : goal.load_station-x-requires
load_station-x-requires c = (long _ c.requires.0, c.requires.1)

pub loop-i-init : goal.loop-i-init
loop-i-init c = (omega arith, sym (sum_none _), omega arith)

pub bounds-area-i : goal.bounds-area-i
bounds-area-i c = omega (arith, long _ c.requires.0)
