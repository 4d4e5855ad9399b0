use Prim.Native.Nat.{◌≤◌, ◌<◌}
use native.Mathlib.Omega.{arith}
use Rattle.events.specs.Events.{station_at}
use Rattle.events.proofs.Laws.{station-small, phase-small}
use Rattle.well_kept.specs.Keys.{key_of}
use Rattle.well_kept.proofs.key_of.Goals as goal
use Rattle.well_kept.proofs.key_of.Goals.{After-event_of-e}

-- ---- where the record has been read
module _ (c : goal.After-event_of-e) where
  small : c.event_of-e.result.station < 8
  unfolding station_at
  small = rw c.event_of-e.ensures (station-small c.args.archive.bytes.now c.args.archive.tested c.args.p.number c.requires)

pub count_of-own-requires : goal.count_of-own-requires
count_of-own-requires c = (c.requires, rw c.from.ensures (small (goal.at.count_of-own-requires c).After-event_of-e))

pub returns : goal.returns
unfolding key_of
returns c =
    let f : c.event_of-e.result.phase ≤ 999999 = rw c.event_of-e.ensures (phase-small c.args.archive.bytes.now c.args.archive.tested c.args.p.number c.requires) in
    (rw (c.from-2.ensures, c.from-3.ensures, c.from-4.ensures, c.count_of-own.ensures, c.from.ensures, ← c.event_of-e.ensures), omega (arith, c.from-2.ensures, c.from-3.ensures, c.from-4.ensures, f, small (goal.at.returns c).After-event_of-e))
