use Prim.Native.Nat.{ℕ, ◌<◌}
use mathlib.Core.Path.{◌≡◌, refl, sym, ap, ◌∙◌}
use native.Mathlib.Omega.{arith}
use native.Mathlib.Decide.{dec_lt}
use lib.ListN.{length, get_or, replicate, get_or-replicate, get_or-eq_default, length-replicate}
use Rattle.record.specs.declared.Record.{Record}
use Rattle.archive.specs.Archive.{records}
use Rattle.events.specs.Events.{event_at, station_at, own_at}
use Rattle.events.proofs.Laws.{station-small}
use Rattle.phase_order.proofs.PassLaws.{table_none}
use Rattle.phase_order.proofs.lasts.Goals as goal
use Rattle.phase_order.proofs.lasts.Goals.{After-event_of-e}

zero_at : (n k : ℕ) → get_or {A = ℕ} (replicate n 0) k 0 ≡ 0
zero_at n k = go (dec_lt k n)
  where
    go : Dec (k < n) → get_or {A = ℕ} (replicate n 0) k 0 ≡ 0
    go (yes l) = get_or-replicate n k 0 0 l
    go (no l) = get_or-eq_default (replicate n 0) 0 {n = k} (omega (arith, l, length-replicate {A = ℕ} n 0))

-- ---- where a record has been read
module _ (c : goal.After-event_of-e) where
  small : c.event_of-e.result.station < 8
  unfolding station_at
  small = rw c.event_of-e.ensures (station-small c.args.archive.bytes.now c.args.archive.tested c.in-Some.p.number (omega (arith, c.in-Some.ensures.steps.1.1, c.loop-p.invariant.0)))

pub loop-p-init : goal.loop-p-init
loop-p-init c =
    let o = c.of-p-items.ensures in
    let i = c.into_iter-p-iterator.ensures.into_iter_gives in
    rw i (o.1, omega arith, refl, rw o.0 (table_none _ _ _ _ (λ k. rw (c.fill.ensures.after (λ y h. h)) (zero_at (length c.args.table.now) k))))

pub event_of-e-requires : goal.event_of-e-requires
event_of-e-requires c = omega (arith, c.in-Some.ensures.steps.1.1, c.loop-p.invariant.0)

pub count_of-own-requires : goal.count_of-own-requires
count_of-own-requires c = (omega (arith, c.in-Some.ensures.steps.1.1, c.loop-p.invariant.0), small (goal.at.count_of-own-requires c).After-event_of-e)

pub mark-requires : goal.mark-requires
mark-requires c = small (goal.at.mark-requires c).After-event_of-e

pub loop-p-preserved : goal.loop-p-preserved
unfolding own_at station_at
loop-p-preserved c =
    let n = c.in-Some.ensures.steps in
    let a = c.args.archive.bytes.now in
    -- its own count
    let own : own_at a c.in-Some.p.number ≡ c.count_of-own.result
    = sym (c.count_of-own.ensures ∙ ap (λ (r : Record). get_or (event_at a c.in-Some.p.number).counts r.station 0) c.event_of-e.ensures)
    in (
      n.0 ∙ c.loop-p.invariant.0,
      omega (arith, n.0, n.1.1, n.1.2),
      c.mark.ensures.0 ∙ c.loop-p.invariant.2,
      rw n.1.2 (c.mark.ensures.1 _ c.in-Some.p.number (sym c.event_of-e.ensures) own (rw (sym n.1.0) at c.loop-p.invariant.3)),
    )

pub returns : goal.returns
returns c =
    let e : c.loop-p.p-iterator.first.number ≡ records c.args.archive.bytes.now = omega (arith, c.in-None.ensures.steps.1) in
    (c.loop-p.invariant.2 ∙ c.fill.ensures.len, rw e at c.loop-p.invariant.3)
