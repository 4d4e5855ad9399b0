use Prim.Native.Nat.{ℕ, ◌+◌}
use mathlib.Core.Path.{◌≡◌, refl, sym, ◌∙◌}
use mathlib.Core.Bool.{◌&&◌, ◌||◌}
use lib.Dec.{eqb, leb, ltb}
use lib.ListN.{get_or}
use native.Mathlib.Omega.{arith}
use Rattle.codec.specs.Every.{every}
use Rattle.codec.proofs.EveryLaws.{every_none, every_more, every_fails}
use Rattle.codec.proofs.FlagLaws.{every_both}
use Rattle.reset.specs.Config.{allowance_below, within_at, within_ceiling}
use Rattle.rules.proofs.Links.allowances_fit.Goals as goal
use Rattle.rules.proofs.Links.allowances_fit.Goals.{After-around, At-loop-i}

-- both tests, of all stations
both-tests : (c : goal.At-loop-i)
    → let a = c.args in
    every 8 (λ (k : ℕ). allowance_below a.h.n a.h.allowances k && within_at a.h.t a.h.allowances a.self.now.limits k) ≡ (every 8 (allowance_below a.h.n a.h.allowances) && within_ceiling a.h.t a.h.allowances a.self.now.limits)
unfolding within_ceiling
both-tests c = let a = c.args in every_both _ (allowance_below a.h.n a.h.allowances) (within_at a.h.t a.h.allowances a.self.now.limits) (λ k. refl) 8

-- both of one station
tested : (c : goal.After-around)
    → let a = c.args in
    let i = c.loop-i.i in
    (allowance_below a.h.n a.h.allowances i && within_at a.h.t a.h.allowances a.self.now.limits i)
    ≡ ((ltb i c.from-top.result || eqb (get_or a.h.allowances i 0) 0) && leb (c.from.result + c.around.result) c.from-ceiling.result)
tested c = rw (c.around.ensures.0, c.from.ensures, c.from-ceiling.ensures, c.from-top.ensures)

pub loop-i-init : goal.loop-i-init
loop-i-init c = (omega arith, every_none _)

pub returns-then-not-i-top : goal.returns-then-not-i-top
returns-then-not-i-top c =
    sym (sym (both-tests (goal.at.returns-then-not-i-top c).At-loop-i) ∙ every_fails 8 _ c.loop-i.i (omega arith) (tested (goal.at.returns-then-not-i-top c).After-around ∙ c.if-not-i-top.true))

pub loop-i-preserved : goal.loop-i-preserved
loop-i-preserved c =
    let l = c.loop-i in
    (omega arith, every_more l.i _ l.invariant.1 (tested (goal.at.loop-i-preserved c).After-around ∙ c.if-not-i-top.false))

pub returns : goal.returns
returns c =
    let e : c.loop-i.i ≡ 8 = omega arith in
    sym (sym (both-tests (goal.at.returns c).At-loop-i) ∙ rw e at c.loop-i.invariant.1)
