use Prim.Native.Nat.{ℕ}
use mathlib.Core.Path.{◌≡◌, refl, ◌∙◌, sym, ap}
use mathlib.Core.List.{List}
use native.Mathlib.Omega.{arith}
use lib.ListN.{length, get_or}
use Rattle.refusals.specs.declared.Refusal.TheVariants.{IllFormedState}
use Rattle.reset.specs.Clock.{vector}
use Rattle.reset.specs.State.{Station, station_at, set_station, set_link}
use Rattle.reset.specs.Steps.{receiving, news_of, entry_of, entry}
use Rattle.reset_rules.proofs.TurnLaws.{set_link-set}
use Rattle.station.specs.View.{station_view}
use Rattle.step_outcomes.proofs.Outcome.{message-full, message-done}
use Rattle.area.specs.Layout.{image, config_at, state_at}
use Rattle.area.proofs.Parts.{image-length}
use Rattle.step_parts.specs.Answers.{stepped_of, SteppedView}
use Rattle.step_parts.proofs.Read.{AtLink, refuses, does, count_most}
use Rattle.recv_start.proofs.ReceiptLaws.{first_is, held}
use Rattle.recv_start.proofs.take_message.Goals as goal
use Rattle.recv_start.proofs.take_message.Goals.{After-slice_known-1, Start}

module _ (c : goal.After-slice_known-1) where
  abbrev g : goal.Start
  g = c.before.before

  abbrev a : List ℕ
  a = c.args.area.now

  abbrev i : ℕ
  i = c.args.i

  abbrev j : ℕ
  j = c.args.j

  at : AtLink a i j
  at = held a i j (λ n. omega (arith, c.slice_known-1.given n)) c.requires.0

  -- the count that the test looks at
  own : get_or (station_at (state_at a) i).time i 0 ≡ get_or c.args.s.counts i 0
  own = sym (ap (λ (x : Station vector). get_or x.time i 0) c.requires.2)

pub returns-then-t-s : goal.returns-then-t-s
returns-then-t-s c = λ q e.
    let l = at (goal.at.returns-then-t-s c).After-slice_known-1 in
    refuses l.area IllFormedState (message-full _ _ l.area.formed _ _ l.station l.neighbour _ _ q e (omega (arith, c.if-t-s.true, c.requires.1, own (goal.at.returns-then-t-s c).After-slice_known-1)))

pub take_at-requires : goal.take_at-requires
take_at-requires c =
    let l = at (goal.at.take_at-requires c).After-slice_known-1 in
    (l.area.long, l.j_small, l.i_small, c.requires.0.some, count_most l.area _ _ l.j_small l.i_small)

pub put_station-requires : goal.put_station-requires
put_station-requires c =
    let l = at (goal.at.put_station-requires c).After-slice_known-1 in
    (ap length (c.take_at.ensures (config_at (a (goal.at.put_station-requires c).After-slice_known-1)) (state_at (a (goal.at.put_station-requires c).After-slice_known-1)) _ _ l.area.is (first_is l c.requires.0.some _ refl)) ∙ image-length _ _, l.i_small)

pub returns : goal.returns
returns c = λ q e.
    let l = at (goal.at.returns c).After-slice_known-1 in
    let s = state_at (a (goal.at.returns c).After-slice_known-1) in
    let y = c.receiving-y.result in
    let told : Station vector → ℕ → SteppedView = λ x b. stepped_of (entry (entry_of 3 (i (goal.at.returns c).After-slice_known-1) (j (goal.at.returns c).After-slice_known-1) c.args.register x b)) in
    let z : station_view y.station ≡ receiving {K = vector} (i (goal.at.returns c).After-slice_known-1) (j (goal.at.returns c).After-slice_known-1) c.args.counts (station_at s (i (goal.at.returns c).After-slice_known-1)) = c.receiving-y.ensures.0 (j (goal.at.returns c).After-slice_known-1) ∙ ap (receiving {K = vector} (i (goal.at.returns c).After-slice_known-1) (j (goal.at.returns c).After-slice_known-1) c.args.counts) c.requires.2 in
    let w : y.news ≡ news_of (i (goal.at.returns c).After-slice_known-1) (station_at s (i (goal.at.returns c).After-slice_known-1)) (station_view y.station) = c.receiving-y.ensures.1 ∙ ap (λ (x : Station vector). news_of (i (goal.at.returns c).After-slice_known-1) x (station_view y.station)) c.requires.2 in
    does l.area _ (message-done _ _ l.area.formed _ _ l.station l.neighbour _ _ q e (omega (arith, c.if-t-s.false, c.requires.1, own (goal.at.returns c).After-slice_known-1)))
    (rw c.entry.ensures (ap (told (station_view y.station)) w ∙ ap (λ (x : Station vector). told x (news_of (i (goal.at.returns c).After-slice_known-1) (station_at s (i (goal.at.returns c).After-slice_known-1)) x)) z))
    (c.put_station.ensures (config_at (a (goal.at.returns c).After-slice_known-1)) _ (c.take_at.ensures (config_at (a (goal.at.returns c).After-slice_known-1)) s _ q l.area.is e)
    ∙ ap (λ (x : Station vector). image (config_at (a (goal.at.returns c).After-slice_known-1)) (set_station (set_link s (j (goal.at.returns c).After-slice_known-1) (i (goal.at.returns c).After-slice_known-1) q) (i (goal.at.returns c).After-slice_known-1) x)) z
    ∙ ap (image (config_at (a (goal.at.returns c).After-slice_known-1))) (sym (set_link-set s (j (goal.at.returns c).After-slice_known-1) (i (goal.at.returns c).After-slice_known-1) (i (goal.at.returns c).After-slice_known-1) q _)))

pub offset_bounds-s-i : goal.offset_bounds-s-i
offset_bounds-s-i c = let k = at (goal.at.offset_bounds-s-i c).After-slice_known-1 in omega arith

pub bounds-s-i : goal.bounds-s-i
bounds-s-i c = (at (goal.at.bounds-s-i c).After-slice_known-1).i_small

pub receiving-y-requires : goal.receiving-y-requires
receiving-y-requires c = ((at (goal.at.receiving-y-requires c).After-slice_known-1).i_small, omega (arith, c.if-t-s.false))

pub overflow_cast-i : goal.overflow_cast-i
overflow_cast-i c = let k = at (goal.at.overflow_cast-i c).After-slice_known-1 in omega (arith, k.i_small)

pub overflow_cast-j : goal.overflow_cast-j
overflow_cast-j c = let k = at (goal.at.overflow_cast-j c).After-slice_known-1 in omega (arith, k.j_small)
