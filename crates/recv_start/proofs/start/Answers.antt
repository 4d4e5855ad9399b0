use Prim.Native.Nat.{ℕ, ◌<◌}
use mathlib.Core.Path.{◌≡◌, refl, ◌∙◌, sym, ap}
use mathlib.Core.List.{List}
use mathlib.Core.Bool.{true, not, ◌&&◌}
use native.Mathlib.Omega.{arith}
use lib.Dec.{leb}
use lib.ListN.{length}
use borrow.Author.Tests.{not-true, not-false}
use Rattle.refusals.specs.declared.Refusal.TheVariants.{IllFormedState, ModeForbids, NoMorePhases, NoSuchStation}
use Rattle.reset.specs.Clock.{vector}
use Rattle.reset.specs.State.{Station, station_at}
use Rattle.reset.specs.Steps.{is_normal}
use Rattle.reset_rules.specs.Turn.{Turning, started}
use Rattle.reset_rules.specs.Slots.{turned_view}
use Rattle.station.specs.View.{station_view}
use Rattle.step_outcomes.proofs.Local.{room_for}
use Rattle.step_outcomes.proofs.Outcome.{start_no_station, start_forbidden, start_last, start_refused, start_done}
use Rattle.area.specs.Layout.{config_at, state_at}
use Rattle.area.proofs.Exact.{tested}
use Rattle.step_parts.proofs.Read.{passed, refuses, hands_on, AtStation, at_station, no_station, station_is}
use Rattle.step_parts.proofs.TurnedLaws.{tests, room_after, settled}
use Rattle.recv_start.proofs.ReceiptLaws.{normal_is}
use Rattle.recv_start.proofs.start.Goals as goal
use Rattle.recv_start.proofs.start.Goals.{After-ne, After-in_bounds}

-- the area passed its test, the station's record is read, and its mode is compared
module _ (c : goal.After-ne) where
  abbrev a : List ℕ
  a = c.args.area.now

  abbrev i : ℕ
  i = c.in_ok-i.i

  abbrev y : Station vector
  y = station_at (state_at a) i

  at : AtStation a i
  at = at_station (passed a (λ n. omega (arith, c.slice_known-1.given n)) c.requires) c.read-config.ensures.header _ (omega (arith, c.in_ok-i.ensures.ok.0, c.in_ok-i.ensures.ok.1))

  x : y ≡ station_view c.load_station-s.result
  x = station_is at.area _ at.i_small c.load_station-s.ensures

  normal : not (is_normal y.mode) ≡ c.ne.result
  normal = ap (λ (x : Station vector). not (is_normal x.mode)) x ∙ ap not (sym (normal_is c.load_station-s.result.mode)) ∙ sym c.ne.ensures

-- the rules are done, and what they lead to is tested
module _ (c : goal.After-in_bounds) where
  abbrev l : goal.After-ne
  l = c.before.before.before.before.before.before

  abbrev u : Turning vector
  u = started (config_at c.args.area.now) c.in_ok-i.i (station_at (state_at c.args.area.now) c.in_ok-i.i)

  phase : (station_at (state_at c.args.area.now) c.in_ok-i.i).phase < 999999
  phase = omega (arith, ap (λ (x : Station vector). x.phase) (x c.before.before.before.before.before.before), c.if-s-ge-LAST_PHASE.false)

  mode : is_normal (station_at (state_at c.args.area.now) c.in_ok-i.i).mode ≡ true
  mode = not-false _ (normal c.before.before.before.before.before.before ∙ c.if-ne.false)

  turns : turned_view c.start-t.result ≡ started (config_at c.args.area.now) c.in_ok-i.i (station_at (state_at c.args.area.now) c.in_ok-i.i)
  turns = c.start-t.ensures (config_at c.args.area.now) (sym c.read-config.ensures.limits) ∙ ap (started (config_at c.args.area.now) c.in_ok-i.i) (sym (x c.before.before.before.before.before.before))

  bounds : (leb (started (config_at c.args.area.now) c.in_ok-i.i (station_at (state_at c.args.area.now) c.in_ok-i.i)).station.phase 999999 && room_for (config_at c.args.area.now) (state_at c.args.area.now) c.in_ok-i.i (length (started (config_at c.args.area.now) c.in_ok-i.i (station_at (state_at c.args.area.now) c.in_ok-i.i)).items)) ≡ c.in_bounds.result
  bounds = sym (tests (at c.before.before.before.before.before.before).area _ (at c.before.before.before.before.before.before).i_small c.read-config.ensures.limits _ (started (config_at c.args.area.now) c.in_ok-i.i (station_at (state_at c.args.area.now) c.in_ok-i.i)) turns) ∙ sym c.in_bounds.ensures

pub returns-in_err-i : goal.returns-in_err-i
returns-in_err-i c =
    let k = passed _ (λ n. omega (arith, c.slice_known-1.given n)) c.requires in
    let (e, l) = c.in_err-i.ensures.err in
    hands_on k NoSuchStation c.from_residual.ensures.1 e (start_no_station _ _ k.formed _ (no_station k c.read-config.ensures.header _ l))

pub load_station-s-requires : goal.load_station-s-requires
load_station-s-requires c = ((tested _ c.requires).long, omega (arith, c.in_ok-i.ensures.ok.0, c.in_ok-i.ensures.ok.1, c.read-config.result.few))

pub returns-then-ne : goal.returns-then-ne
returns-then-ne c =
    let p = (goal.at.returns-then-ne c).After-ne in
    let k = at p in
    rw (← c.in_ok-i.ensures.ok.0) (refuses k.area ModeForbids (start_forbidden _ _ k.area.formed _ k.station (not-true _ (normal p ∙ c.if-ne.true))))

pub returns-then-s-ge-LAST_PHASE : goal.returns-then-s-ge-LAST_PHASE
returns-then-s-ge-LAST_PHASE c =
    let p = (goal.at.returns-then-s-ge-LAST_PHASE c).After-ne in
    let k = at p in
    rw (← c.in_ok-i.ensures.ok.0)
    (refuses k.area NoMorePhases (start_last _ _ k.area.formed _ k.station (not-false _ (normal p ∙ c.if-ne.false)) (omega (arith, ap (λ (x : Station vector). x.phase) (x p), c.if-s-ge-LAST_PHASE.true))))

pub start-t-requires : goal.start-t-requires
start-t-requires c = ((at (goal.at.start-t-requires c).After-ne).i_small, omega (arith, c.if-s-ge-LAST_PHASE.false))

pub in_bounds-requires : goal.in_bounds-requires
in_bounds-requires c = let k = at (goal.at.in_bounds-requires c).After-ne in (k.area.long, k.i_small)

pub returns-then-not-in_bounds : goal.returns-then-not-in_bounds
returns-then-not-in_bounds c =
    let p = (goal.at.returns-then-not-in_bounds c).After-in_bounds in
    let k = at (l p) in
    rw (← c.in_ok-i.ensures.ok.0) (refuses k.area IllFormedState (start_refused _ _ k.area.formed _ k.station (mode p) (phase p) (bounds p ∙ c.if-not-in_bounds.true)))

pub settle-requires : goal.settle-requires
settle-requires c =
    let k = at (goal.at.settle-requires c).After-ne in (
      k.area.long,
      k.i_small,
      room_after k.area _ k.i_small c.read-config.ensures.limits _ (sym c.in_bounds.ensures ∙ c.if-not-in_bounds.false) (state_at c.args.area.now) (λ j. refl) k.area.is,
    )

pub returns : goal.returns
returns c =
    let p = (goal.at.returns c).After-in_bounds in
    let k = at (l p) in
    rw (← c.in_ok-i.ensures.ok.0)
    (settled k.area _ k.i_small c.read-config.ensures.limits _ (u p) (turns p) (state_at c.args.area.now)
    (start_done _ _ k.area.formed _ k.station (mode p) (phase p) (bounds p ∙ c.if-not-in_bounds.false)) k.area.is c.settle.ensures)
