use Prim.Native.Nat.{ℕ}
use mathlib.Core.Path.{◌≡◌, refl, ◌∙◌, sym, ap}
use mathlib.Core.List.{List}
use native.Mathlib.Omega.{arith}
use lib.ListN.{length}
use Rattle.refusals.specs.declared.Refusal.TheVariants.{IllFormedState}
use Rattle.reset.specs.Clock.{vector}
use Rattle.reset.specs.State.{Item, link_at, set_link}
use Rattle.reset_rules.specs.Turn.{turned}
use Rattle.reset_rules.specs.Slots.{turned_view}
use Rattle.station.specs.View.{station_view}
use Rattle.step_outcomes.proofs.Outcome.{mark_refused, mark_done}
use Rattle.area.specs.Layout.{config_at, state_at}
use Rattle.area.proofs.Parts.{image-length}
use Rattle.step_parts.proofs.Read.{AtLink, refuses, count_most}
use Rattle.recv_start.proofs.ReceiptLaws.{rest, first_is, out_same, held}
use Rattle.step_parts.proofs.TurnedLaws.{tests, room_after, settled}
use Rattle.recv_start.proofs.take_control.Goals as goal
use Rattle.recv_start.proofs.take_control.Goals.{After-slice_known-1, After-turn-t, Start}

module _ (c : goal.After-slice_known-1) where
  abbrev g : goal.Start
  g = c.before.before

  abbrev a : List ℕ
  a = c.args.area.now

  at : AtLink a c.args.i c.args.j
  at = held a _ _ (λ n. omega (arith, c.slice_known-1.given n)) c.requires.0

-- the rules are done
turns : (c : goal.After-turn-t) → turned_view c.turn-t.result ≡ turned (config_at c.args.area.now) c.args.i (station_view c.args.x)
turns c = c.turn-t.ensures (config_at c.args.area.now) (sym c.requires.1)

pub returns-then-not-in_bounds : goal.returns-then-not-in_bounds
returns-then-not-in_bounds c = λ y q e time marks.
    let k = at (goal.at.returns-then-not-in_bounds c).After-slice_known-1 in
    refuses k.area IllFormedState
    (mark_refused _ _ k.area.formed _ _ k.station k.neighbour (station_view c.args.x) y q e time marks
    (sym (tests k.area _ k.i_small c.requires.1 c.turn-t.result _ (turns (goal.at.returns-then-not-in_bounds c).After-turn-t)) ∙ sym c.in_bounds.ensures ∙ c.if-not-in_bounds.true))

pub take_at-requires : goal.take_at-requires
take_at-requires c =
    let k = at (goal.at.take_at-requires c).After-slice_known-1 in
    (k.area.long, k.j_small, k.i_small, c.requires.0.some, count_most k.area _ _ k.j_small k.i_small)

pub settle-requires : goal.settle-requires
settle-requires c =
    let k = at (goal.at.settle-requires c).After-slice_known-1 in
    let q : List (Item vector) = rest (link_at (state_at (a (goal.at.settle-requires c).After-slice_known-1)) c.args.j c.args.i) in
    let e = c.take_at.ensures (config_at (a (goal.at.settle-requires c).After-slice_known-1)) (state_at (a (goal.at.settle-requires c).After-slice_known-1)) _ q k.area.is (first_is k c.requires.0.some _ refl) in (
      ap length e ∙ image-length _ _,
      k.i_small,
      room_after k.area _ k.i_small c.requires.1 c.turn-t.result (sym c.in_bounds.ensures ∙ c.if-not-in_bounds.false) (set_link (state_at (a (goal.at.settle-requires c).After-slice_known-1)) c.args.j c.args.i q) (out_same k q) e,
    )

pub returns : goal.returns
returns c = λ y q e time marks.
    let k = at (goal.at.returns c).After-slice_known-1 in
    settled k.area _ k.i_small c.requires.1 c.turn-t.result _ (turns (goal.at.returns c).After-turn-t) (set_link (state_at (a (goal.at.returns c).After-slice_known-1)) c.args.j c.args.i q)
    (mark_done _ _ k.area.formed _ _ k.station k.neighbour (station_view c.args.x) y q e time marks
    (sym (tests k.area _ k.i_small c.requires.1 c.turn-t.result _ (turns (goal.at.returns c).After-turn-t)) ∙ sym c.in_bounds.ensures ∙ c.if-not-in_bounds.false))
    (c.take_at.ensures (config_at (a (goal.at.returns c).After-slice_known-1)) (state_at (a (goal.at.returns c).After-slice_known-1)) y q k.area.is e) c.settle.ensures

pub turn-t-requires : goal.turn-t-requires
turn-t-requires c = ((at (goal.at.turn-t-requires c).After-slice_known-1).i_small, c.requires.2)

pub in_bounds-requires : goal.in_bounds-requires
in_bounds-requires c = let k = at (goal.at.in_bounds-requires c).After-slice_known-1 in (k.area.long, k.i_small)
