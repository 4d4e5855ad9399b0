use Prim.Native.Nat.{ℕ}
use mathlib.Core.Path.{◌≡◌, refl, ◌∙◌, sym, ap}
use mathlib.Core.List.{List, []}
use native.Mathlib.Omega.{arith}
use lib.ListN.{length, get_or}
use Rattle.refusals.specs.declared.Refusal.TheVariants.{NoSuchStation}
use Rattle.clock.specs.Timestamp.{tick}
use Rattle.reset.specs.Reach.{limit}
use Rattle.reset.specs.Clock.{vector}
use Rattle.reset.specs.State.{message, Station as NetworkStation, station_at, link_at, set_station, put_on}
use Rattle.reset.specs.Steps.{entry, entry_of, sending, do_send}
use Rattle.station.specs.View.{station_view}
use Rattle.step_outcomes.proofs.Outcome.{send_no_station, send_no_neighbour}
use Rattle.area.specs.Layout.{image, config_at, state_at}
use Rattle.step_parts.specs.Answers.{stepped_of}
use Rattle.enter_send.specs.Sending.{send_refusal}
use Rattle.step_parts.proofs.Read.{passed, hands_on, does, t_is, t-small, AtLink, no_link, at_link, limit_is, station_is, count_is}
use Rattle.enter_send.proofs.SendLaws.{send-refused, send-accepted}
use Rattle.enter_send.proofs.send.Goals as goal
use Rattle.enter_send.proofs.send.Goals.{After-count_at-count, In_ok-i}

-- the area passed its test, and there is such a link
module _ (c : goal.In_ok-i) where
  at : AtLink c.args.area.now c.in_ok-i.i c.in_ok-i.j
  at = at_link (passed _ (λ n. omega (arith, c.slice_known-1.given n)) c.requires) c.read-config.ensures.header c.read-config.ensures.limits _ _ c.in_ok-i.ensures.ok.2

  limited : limit (config_at c.args.area.now).limits c.in_ok-i.i c.in_ok-i.j ≡ get_or (get_or c.read-config.result.limits c.in_ok-i.i []) c.in_ok-i.j 0
  limited = limit_is at.area c.read-config.ensures.header c.read-config.ensures.limits _ _

-- the station's record is read, and the items on its link are counted
module _ (c : goal.After-count_at-count) where
  abbrev a : List ℕ
  a = c.args.area.now

  abbrev i : ℕ
  i = c.in_ok-i.i

  abbrev j : ℕ
  j = c.in_ok-i.j

  x : station_at (state_at a) i ≡ station_view c.load_station-s.result
  x = station_is (at c.before.before).area _ (at c.before.before).i_small c.load_station-s.ensures

  n : c.count_at-count.result ≡ length (link_at (state_at a) i j)
  n = c.count_at-count.ensures ∙ count_is (at c.before.before).area _ _ (at c.before.before).i_small (at c.before.before).j_small

  -- what decides the send
  decides : send_refusal (station_view c.load_station-s.result) c.read-config.result.header.t (get_or (get_or c.read-config.result.limits i []) j 0) c.count_at-count.result i j
      ≡ send_refusal (station_at (state_at a) i) (config_at a).t (limit (config_at a).limits i j) (length (link_at (state_at a) i j)) i j
  decides = rw (x, t_is (at c.before.before).area c.read-config.ensures.header, limited c.before.before, ← n)

pub returns-in_err-i : goal.returns-in_err-i
returns-in_err-i c =
    let k = passed _ (λ n. omega (arith, c.slice_known-1.given n)) c.requires in
    let (e, l) = c.in_err-i.ensures.err in
    hands_on k NoSuchStation c.from_residual.ensures.1 e
    (no_link k c.read-config.ensures.header c.read-config.ensures.limits _ _ l (send_no_station _ _ k.formed _ _ _) (send_no_neighbour _ _ k.formed _ _ _))

pub load_station-s-requires : goal.load_station-s-requires
load_station-s-requires c = let k = at (goal.at.load_station-s-requires c).In_ok-i in (k.area.long, k.i_small)

pub count_at-count-requires : goal.count_at-count-requires
count_at-count-requires c = let k = at (goal.at.count_at-count-requires c).In_ok-i in (k.area.long, k.i_small, k.j_small)

pub bounds-config-i : goal.bounds-config-i
bounds-config-i c = (at (goal.at.bounds-config-i c).In_ok-i).i_small

pub bounds-config-j : goal.bounds-config-j
bounds-config-j c = (at (goal.at.bounds-config-j c).In_ok-i).j_small

pub admit-requires : goal.admit-requires
admit-requires c =
    let p = (goal.at.admit-requires c).In_ok-i in
    ((at p).i_small, (at p).j_small, rw (limited p) at (at p).limit-small)

pub returns-in_err-admit : goal.returns-in_err-admit
returns-in_err-admit c =
    let k = at (goal.at.returns-in_err-admit c).In_ok-i in
    let (e, f, l) = c.in_ok-i.ensures.ok in
    rw (← e, ← f)
    (hands_on k.area _ c.from_residual-in_err-admit.ensures.1 refl
    (send-refused _ _ k.area.formed _ _ _ k.station k.neighbour _ (c.admit.ensures ∙ decides (goal.at.returns-in_err-admit c).After-count_at-count) _ c.in_err-admit.was))

pub send_message-requires : goal.send_message-requires
send_message-requires c =
    let k = at (goal.at.send_message-requires c).In_ok-i in
    let p = (goal.at.send_message-requires c).After-count_at-count in
    let z = send-accepted _ _ k.area.formed _ _ c.args.register k.station k.neighbour _ (c.admit.ensures ∙ decides p) _ c.in_ok-admit.was in
    let v = rw (x p) at z.count in
    let u = rw (x p) at z.sent in
    (k.area.long, k.i_small, k.j_small, omega (arith, t-small k.area, v), omega (arith, k.limit-small, u), omega (arith, n p, c.count_at-count.ensures, k.limit-small, z.room))

pub returns : goal.returns
returns c =
    let k = at (goal.at.returns c).In_ok-i in
    let p = (goal.at.returns c).After-count_at-count in
    let s = state_at c.args.area.now in
    let d = config_at c.args.area.now in
    let i : ℕ = c.in_ok-i.i in
    let j : ℕ = c.in_ok-i.j in
    let g = c.args.register in
    let m = c.send_message.ensures in
    let (e, f, l) = c.in_ok-i.ensures.ok in
    rw (← e, ← f)
    (does k.area (do_send i j g s) (send-accepted _ _ k.area.formed _ _ _ k.station k.neighbour _ (c.admit.ensures ∙ decides p) _ c.in_ok-admit.was).done
    (m.answer ∙ ap (λ (r : NetworkStation vector). stepped_of (entry (entry_of 2 i j g (sending i j r) 0))) (sym (x p)))
    (m.area d s k.area.is ∙ ap (λ (r : NetworkStation vector). image d (put_on (set_station s i (sending i j r)) i j (message (tick i r.time) g))) (sym (x p))))
