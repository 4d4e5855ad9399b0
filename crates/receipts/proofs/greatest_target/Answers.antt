use Prim.Native.Nat.{ℕ, ◌+◌, max}
use mathlib.Core.Path.{◌≡◌, ◌∙◌, sym, ap}
use native.Mathlib.Omega.{arith}
use Rattle.codec.specs.Every.{greatest}
use Rattle.codec.proofs.SumLaws.{greatest_none, greatest_more}
use Rattle.area.specs.Layout.{state_at}
use Rattle.receipts.proofs.Laws.{target_at, greatest_is, long, phase-most, target_is}
use Rattle.receipts.proofs.greatest_target.Goals as goal

pub load_station-x-requires : goal.load_station-x-requires
load_station-x-requires c = (long _ c.requires.0, omega arith)

pub target-aim-requires : goal.target-aim-requires
target-aim-requires c =
    phase-most c.args.area.now c.requires.0 c.loop-i.i (omega arith) c.load_station-x.result c.load_station-x.ensures

pub loop-i-preserved : goal.loop-i-preserved
loop-i-preserved c =
    let a = c.args.area.now in
    let i = c.loop-i.i in
    let m : greatest (i + 1) (target_at (state_at a)) ≡ max (greatest i (target_at (state_at a))) (target_at (state_at a) i) = greatest_more i (target_at (state_at a)) in
    let t : target_at (state_at a) i ≡ c.target-aim.result = target_is a c.requires.0 i (omega arith) c.load_station-x.result c.load_station-x.ensures ∙ sym c.target-aim.ensures.0 in
    (omega arith, omega arith, omega arith)

pub returns : goal.returns
returns c =
    let g = c.args in
    let e : c.loop-i.i ≡ g.n = omega arith in
    (c.loop-i.invariant.1 ∙ (ap (λ (n : ℕ). greatest n (target_at (state_at g.area.now))) e ∙ sym (greatest_is g.n (state_at g.area.now))), omega arith)

pub loop-i-init : goal.loop-i-init
loop-i-init c = (omega arith, sym (greatest_none _), omega arith)
