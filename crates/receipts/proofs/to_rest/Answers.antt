use Prim.Native.Nat.{ℕ, ◌+◌}
use mathlib.Core.Path.{◌≡◌, ◌∙◌, sym, ap}
use mathlib.Core.List.{List}
use mathlib.Core.Bool.{true}
use native.Mathlib.Omega.{arith}
use Rattle.reset.specs.Receipts.{receipts_to_rest}
use Rattle.area.specs.Layout.{config_at, state_at, test}
use Rattle.area_calls.specs.Calls.{receipts_left, receipts_on}
use Rattle.receipts.proofs.Laws.{long, n_small, to_rest_is}
use Rattle.receipts.proofs.to_rest.Goals as goal
use Rattle.receipts.proofs.to_rest.Goals.{Else-not-well_formed}

-- the area passed its test
module _ (c : goal.Else-not-well_formed) where
  abbrev a : List ℕ
  a = c.args.area.now

  passed : test a ≡ true
  passed = sym c.well_formed-2.ensures ∙ c.if-not-well_formed.false

pub returns-then-not-well_formed : goal.returns-then-not-well_formed
unfolding receipts_on
returns-then-not-well_formed c = rw (sym c.well_formed-2.ensures ∙ c.if-not-well_formed.true)

pub greatest_target-requires : goal.greatest_target-requires
greatest_target-requires c =
    (passed (goal.at.greatest_target-requires c).Else-not-well_formed, n_small (a (goal.at.greatest_target-requires c).Else-not-well_formed) (passed (goal.at.greatest_target-requires c).Else-not-well_formed) c.load-h.result c.load-h.ensures)

pub returns : goal.returns
unfolding receipts_on
returns c =
    let h = c.load-h in
    let m = c.messages_under_way-messages in
    let g = c.greatest_target in
    let n : m.result + c.all_controls-controls.result ≡ receipts_to_rest (config_at (a (goal.at.returns c).Else-not-well_formed)) (state_at (a (goal.at.returns c).Else-not-well_formed)) = to_rest_is (a (goal.at.returns c).Else-not-well_formed) (passed (goal.at.returns c).Else-not-well_formed) h.result h.ensures _ _ _ m.ensures.0 g.ensures.0 c.all_controls-controls.ensures.0 in
    rw (passed (goal.at.returns c).Else-not-well_formed) (ap receipts_left (omega arith))

pub slice_bounds-load-end : goal.slice_bounds-load-end
slice_bounds-load-end c = omega (arith, long _ (passed (goal.at.slice_bounds-load-end c).Else-not-well_formed))

pub messages_under_way-messages-requires : goal.messages_under_way-messages-requires
messages_under_way-messages-requires c = passed (goal.at.messages_under_way-messages-requires c).Else-not-well_formed

pub all_controls-controls-requires : goal.all_controls-controls-requires
all_controls-controls-requires c = (passed (goal.at.all_controls-controls-requires c).Else-not-well_formed, c.greatest_target.ensures.1)
