use Prim.Native.Nat.{ℕ, ◌+◌}
use mathlib.Core.Path.{◌≡◌, ◌∙◌, sym, ap}
use native.Mathlib.Omega.{arith}
use Rattle.codec.specs.Every.{sum}
use Rattle.codec.proofs.EveryLaws.{sum_none, sum_more}
use Rattle.receipts.proofs.all_controls.Invariants.{left-to}
use Rattle.receipts.proofs.all_controls.Goals as goal

pub loop-j-preserved : goal.loop-j-preserved
loop-j-preserved c =
    let s = c.args in
    let f : ℕ → ℕ = left-to s.area.now s.g in
    let j = c.loop-j.j in
    let m : sum (j + 1) f ≡ sum j f + f j = sum_more j f in
    (omega arith, omega (arith, c.controls_to-left.ensures.0), omega arith)

pub returns : goal.returns
returns c =
    let s = c.args in
    let e : c.loop-j.j ≡ 8 = omega arith in
    (c.loop-j.invariant.1 ∙ ap (λ (n : ℕ). sum n (left-to s.area.now s.g)) e, omega arith)

pub loop-j-init : goal.loop-j-init
loop-j-init c = (omega arith, sym (sum_none _), omega arith)

pub controls_to-left-requires : goal.controls_to-left-requires
controls_to-left-requires c = (c.requires.0, omega arith, c.requires.1)
