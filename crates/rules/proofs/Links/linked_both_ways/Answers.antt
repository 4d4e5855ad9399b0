use Prim.Native.Nat.{ℕ}
use mathlib.Core.Path.{◌≡◌, refl, sym, ◌∙◌}
use mathlib.Core.List.{[]}
use mathlib.Core.Bool.{◌&&◌}
use lib.Dec.{eqb}
use lib.ListN.{get_or}
use native.Mathlib.Omega.{arith}
use Rattle.codec.specs.Every.{every}
use Rattle.codec.proofs.EveryLaws.{every_none, every_more, every_fails}
use Rattle.codec.proofs.FlagLaws.{every_both}
use Rattle.reset.specs.Reach.{limit}
use Rattle.reset.specs.Config.{zero_at, zero_diagonal, both_or_none, linked_both_ways}
use Rattle.rules.proofs.Links.linked_both_ways.Goals as goal
use Rattle.rules.proofs.Links.linked_both_ways.Goals.{After-row_both_ways, At-loop-i}

-- both tests, of all stations
both-tests : (c : goal.At-loop-i) → let m = c.args.self.now.limits in every 8 (λ (k : ℕ). zero_at m k && every 8 (both_or_none m k)) ≡ (zero_diagonal m && linked_both_ways m)
unfolding zero_diagonal linked_both_ways
both-tests c = every_both _ (zero_at c.args.self.now.limits) (λ (k : ℕ). every 8 (both_or_none c.args.self.now.limits k)) (λ k. refl) 8

-- both of one station
tested : (c : goal.After-row_both_ways)
    → let m = c.args.self.now.limits in
    let i = c.loop-i.i in
    (zero_at m i && every 8 (both_or_none m i)) ≡ (eqb (get_or (get_or m i []) i 0) 0 && c.row_both_ways.result)
unfolding limit
tested c = rw c.row_both_ways.ensures

pub loop-i-init : goal.loop-i-init
loop-i-init c = (omega arith, every_none _)

pub returns-then-not-own-row_both_ways : goal.returns-then-not-own-row_both_ways
returns-then-not-own-row_both_ways c =
    sym (sym (both-tests (goal.at.returns-then-not-own-row_both_ways c).At-loop-i) ∙ every_fails 8 _ c.loop-i.i (omega arith) (tested (goal.at.returns-then-not-own-row_both_ways c).After-row_both_ways ∙ c.if-not-own-row_both_ways.true))

pub loop-i-preserved : goal.loop-i-preserved
loop-i-preserved c =
    let l = c.loop-i in
    (omega arith, every_more l.i _ l.invariant.1 (tested (goal.at.loop-i-preserved c).After-row_both_ways ∙ c.if-not-own-row_both_ways.false))

pub returns : goal.returns
returns c =
    let e : c.loop-i.i ≡ 8 = omega arith in
    sym (sym (both-tests (goal.at.returns c).At-loop-i) ∙ rw e at c.loop-i.invariant.1)
