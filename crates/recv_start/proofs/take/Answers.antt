use mathlib.Core.Path.{◌≡◌, ◌∙◌, sym, ap}
use native.Mathlib.Omega.{arith}
use Rattle.reset.specs.Config.{Config}
use Rattle.reset.specs.Clock.{vector}
use Rattle.reset.specs.State.{reset_req, reset_done, Station, station_at, link_at}
use Rattle.reset.specs.Steps.{with_req, with_done, bounded, do_mark}
use Rattle.station.specs.View.{station_view}
use Rattle.area.specs.Layout.{config_at, state_at}
use Rattle.step_parts.proofs.Read.{AtLink, station_is, phase-most}
use Rattle.recv_start.proofs.ReceiptLaws.{rest, first_is, held}
use Rattle.recv_start.proofs.take.Goals as goal
use Rattle.recv_start.proofs.take.Goals.{After-load_station-s}

-- the station's record is read
module _ (c : goal.After-load_station-s) where
  at : AtLink c.args.area.now c.args.i c.args.j
  at = held _ _ _ (λ n. omega (arith, c.slice_known-1.given n)) c.requires.0

  x : station_at (state_at c.args.area.now) c.args.i ≡ station_view c.load_station-s.result
  x = station_is at.area _ at.i_small c.load_station-s.ensures

  marks : (y z : Station vector) → y ≡ z
      → bounded (config_at c.args.area.now) (state_at c.args.area.now) (do_mark (config_at c.args.area.now) c.args.i c.args.j z (rest (link_at (state_at c.args.area.now) c.args.j c.args.i)) (state_at c.args.area.now))
      ≡ bounded (config_at c.args.area.now) (state_at c.args.area.now) (do_mark (config_at c.args.area.now) c.args.i c.args.j y (rest (link_at (state_at c.args.area.now) c.args.j c.args.i)) (state_at c.args.area.now))
  marks y z e = rw e

pub load_station-s-requires : goal.load_station-s-requires
load_station-s-requires c =
    let k = held _ _ _ (λ n. omega (arith, c.slice_known-1.given n)) c.requires.0 in
    (k.area.long, k.i_small)

pub first_at-requires : goal.first_at-requires
first_at-requires c = let k = at (goal.at.first_at-requires c).After-load_station-s in (k.area.long, k.j_small, k.i_small)

pub take_message-requires : goal.take_message-requires
take_message-requires c =
    (c.requires.0, ap (λ (d : Config). d.t) c.requires.1, sym (x (goal.at.take_message-requires c).After-load_station-s))

pub with_req-requires : goal.with_req-requires
with_req-requires c = (at (goal.at.with_req-requires c).After-load_station-s).j_small

pub take_control-requires : goal.take_control-requires
take_control-requires c =
    let l = (goal.at.take_control-requires c).After-load_station-s in
    (c.requires.0, ap (λ (d : Config). d.limits) c.requires.1, omega (arith, c.with_req.ensures.1, phase-most (at l).area _ (at l).i_small, ap (λ (s : Station vector). s.phase) (x l)))

pub with_done-requires : goal.with_done-requires
with_done-requires c = (at (goal.at.with_done-requires c).After-load_station-s).j_small

pub take_control-requires-in-Control-ResetDone : goal.take_control-requires-in-Control-ResetDone
take_control-requires-in-Control-ResetDone c =
    let l = (goal.at.take_control-requires-in-Control-ResetDone c).After-load_station-s in
    (c.requires.0, ap (λ (d : Config). d.limits) c.requires.1, omega (arith, c.with_done.ensures.1, phase-most (at l).area _ (at l).i_small, ap (λ (s : Station vector). s.phase) (x l)))

pub returns-in-Message : goal.returns-in-Message
returns-in-Message c =
    let k = at (goal.at.returns-in-Message c).After-load_station-s in
    c.take_message.ensures _ (first_is k c.requires.0.some _ c.in-Message.ensures)

pub returns-in-Control-ResetReq : goal.returns-in-Control-ResetReq
returns-in-Control-ResetReq c =
    let l = (goal.at.returns-in-Control-ResetReq c).After-load_station-s in
    let e : station_view c.with_req.result ≡ with_req c.args.j (station_at (state_at c.args.area.now) c.args.i) = c.with_req.ensures.0 ∙ ap (with_req c.args.j) (sym (x l)) in
    c.take_control.ensures reset_req _ (first_is (at l) c.requires.0.some _ (rw c.in-Control-ResetReq.field-0-is at c.in-Control-ResetReq.ensures)) (ap (λ (s : Station vector). s.time) e) (marks l _ _ e)

pub returns-in-Control-ResetDone : goal.returns-in-Control-ResetDone
returns-in-Control-ResetDone c =
    let l = (goal.at.returns-in-Control-ResetDone c).After-load_station-s in
    let e : station_view c.with_done.result ≡ with_done c.args.j (station_at (state_at c.args.area.now) c.args.i) = c.with_done.ensures.0 ∙ ap (with_done c.args.j) (sym (x l)) in
    c.take_control-in-Control-ResetDone.ensures reset_done _ (first_is (at l) c.requires.0.some _ (rw c.in-Control-ResetDone.field-0-is at c.in-Control-ResetDone.ensures)) (ap (λ (s : Station vector). s.time) e) (marks l _ _ e)
