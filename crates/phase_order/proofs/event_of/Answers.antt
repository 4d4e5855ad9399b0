use Rattle.events.specs.Events.{station_at, own_at}
use Rattle.events.proofs.Laws.{station-small, own_some}
use Rattle.phase_order.proofs.event_of.Goals as goal

pub invariant_of-result-clause-known : goal.invariant_of-result-clause-known
unfolding station_at
invariant_of-result-clause-known c =
    let a = c.args.archive in rw c.event_at-record.ensures (station-small a.bytes.now a.tested c.args.k c.requires)

pub invariant_of-result-clause-counted : goal.invariant_of-result-clause-counted
unfolding station_at own_at
invariant_of-result-clause-counted c =
    let a = c.args.archive in rw c.event_at-record.ensures (own_some a.bytes.now a.tested c.args.k c.requires)
