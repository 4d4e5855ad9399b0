use Prim.Native.Nat.{ℕ}
use mathlib.Core.Path.{◌≡◌, ◌∙◌, sym, ap}
use native.Mathlib.Omega.{arith}
use lib.ListN.{get_or}
use Rattle.refusals.specs.declared.Refusal.TheVariants.{IllFormedState, NoSuchStation, UsedUp}
use Rattle.reset.specs.Config.{allowance_at}
use Rattle.reset.specs.Clock.{vector}
use Rattle.reset.specs.State.{Station as NetworkStation, station_at, set_station}
use Rattle.reset.specs.Steps.{entry, entered, entry_of, do_enter}
use Rattle.station.specs.View.{station_view}
use Rattle.step_outcomes.proofs.Outcome.{enter_no_station, enter_used_up, enter-full, enter-done}
use Rattle.area.specs.Layout.{image, config_at, state_at}
use Rattle.area.proofs.Exact.{tested}
use Rattle.step_parts.specs.Answers.{stepped_of}
use Rattle.step_parts.proofs.Read.{passed, refuses, hands_on, does, t_is, t-small, allowance_small, AtStation, at_station, no_station, station_is, allowance_is}
use Rattle.enter_send.proofs.enter.Goals as goal
use Rattle.enter_send.proofs.enter.Goals.{After-load_station-s}

-- the area passed its test, and the station's record is read
module _ (c : goal.After-load_station-s) where
  at : AtStation c.args.area.now c.in_ok-i.i
  at = at_station (passed _ (λ n. omega (arith, c.slice_known-1.given n)) c.requires) c.read-config.ensures.header _ (omega (arith, c.in_ok-i.ensures.ok.0, c.in_ok-i.ensures.ok.1))

  x : station_at (state_at c.args.area.now) c.in_ok-i.i ≡ station_view c.load_station-s.result
  x = station_is at.area _ at.i_small c.load_station-s.ensures

  -- the count that the test looks at
  own : get_or (station_at (state_at c.args.area.now) c.in_ok-i.i).time c.in_ok-i.i 0 ≡ get_or c.load_station-s.result.counts c.in_ok-i.i 0
  own = ap (λ (y : NetworkStation vector). get_or y.time c.in_ok-i.i 0) x

  allowed : allowance_at (config_at c.args.area.now) (station_at (state_at c.args.area.now) c.in_ok-i.i).phase c.in_ok-i.i ≡ get_or c.read-config.result.header.allowances c.in_ok-i.i 0
  allowed = allowance_is at.area c.read-config.ensures.header _ _

pub returns-in_err-i : goal.returns-in_err-i
returns-in_err-i c =
    let k = passed _ (λ n. omega (arith, c.slice_known-1.given n)) c.requires in
    let (e, l) = c.in_err-i.ensures.err in
    hands_on k NoSuchStation c.from_residual.ensures.1 e (enter_no_station _ _ k.formed _ _ (no_station k c.read-config.ensures.header _ l))

pub load_station-s-requires : goal.load_station-s-requires
load_station-s-requires c = ((tested _ c.requires).long, omega (arith, c.in_ok-i.ensures.ok.0, c.in_ok-i.ensures.ok.1, c.read-config.result.few))

pub returns-then-config-i : goal.returns-then-config-i
returns-then-config-i c =
    let l = (goal.at.returns-then-config-i c).After-load_station-s in
    let k = at l in
    rw (← c.in_ok-i.ensures.ok.0) (refuses k.area UsedUp (enter_used_up _ _ k.area.formed _ _ k.station (rw (allowed l, x l) c.if-config-i.true)))

pub returns-then-config-s : goal.returns-then-config-s
returns-then-config-s c =
    let l = (goal.at.returns-then-config-s c).After-load_station-s in
    let k = at l in
    rw (← c.in_ok-i.ensures.ok.0)
    (refuses k.area IllFormedState (enter-full _ _ k.area.formed _ _ k.station (rw (allowed l, x l) c.if-config-i.false) (omega (arith, c.if-config-s.true, t_is k.area c.read-config.ensures.header, own l))))

pub entered-after-requires : goal.entered-after-requires
entered-after-requires c =
    let k = at (goal.at.entered-after-requires c).After-load_station-s in
    (k.i_small, omega (arith, t-small k.area, t_is k.area c.read-config.ensures.header), omega (arith, allowance_small k.area c.read-config.ensures.header _ k.i_small))

pub put_station-requires : goal.put_station-requires
put_station-requires c = ((tested _ c.requires).long, omega (arith, c.in_ok-i.ensures.ok.0, c.in_ok-i.ensures.ok.1, c.read-config.result.few))

pub returns : goal.returns
returns c =
    let l = (goal.at.returns c).After-load_station-s in
    let k = at l in
    let i : ℕ = c.in_ok-i.i in
    let a = c.args.area.now in
    let g = c.args.register in
    let z : station_view c.entered-after.result ≡ entered i (station_at (state_at a) i) = c.entered-after.ensures ∙ ap (entered i) (sym (x l)) in
    rw (← c.in_ok-i.ensures.ok.0)
    (does k.area (do_enter i g (state_at a))
    (enter-done _ _ k.area.formed _ _ k.station (rw (allowed l, x l) c.if-config-i.false) (omega (arith, c.if-config-s.false, t_is k.area c.read-config.ensures.header, own l)))
    (rw c.entry.ensures (ap (λ (y : NetworkStation vector). stepped_of (entry (entry_of 1 i 255 g y 0))) z))
    (c.put_station.ensures (config_at a) (state_at a) k.area.is ∙ ap (λ (y : NetworkStation vector). image (config_at a) (set_station (state_at a) i y)) z))
