use Prim.Native.Nat.{ℕ, ◌+◌, ◌≤◌, ◌<◌}
use mathlib.Core.Path.{◌≡◌, sym, ap, ◌∙◌}
use mathlib.Core.List.{List}
use mathlib.Core.Bool.{false}
use native.Mathlib.Omega.{arith}
use native.Mathlib.Decide.{ℕ_discrete}
use lib.ListN.{get_or}
use Rattle.record.specs.declared.Record.{Record}
use Rattle.events.specs.Events.{event_at, station_at}
use Rattle.events.proofs.Laws.{station-small}
use Rattle.phase_order.specs.Passes.{meets, NoneMeets}
use Rattle.phase_order.proofs.next_phase.Goals as goal

-- one record more, which is e
none_more : {a r : List ℕ} {f g n : ℕ} → NoneMeets a r f g n → (h : ℕ) (e : Record) → h ≤ g → event_at a n ≡ e → (f ≤ e.phase → e.phase < h → get_or r e.station 0 ≡ 0 → meets r e.counts ≡ false) → NoneMeets a r f h (n + 1)
unfolding station_at
none_more {a} {r} {f} {g} {n} w h e le is one = record { none = λ i l lo hi z. go i l lo hi z (ℕ_discrete i n) }
  where
    go : (i : ℕ) → i < n + 1 → f ≤ (event_at a i).phase → (event_at a i).phase < h → get_or r (event_at a i).station 0 ≡ 0 → Dec (i ≡ n) → meets r (event_at a i).counts ≡ false
    go i l lo hi z (no d) = w.none i (omega (arith, d)) lo (omega arith) z
    go i l lo hi z (yes d) = let q : event_at a i ≡ e = ap (event_at a) d ∙ is in rw q (one (rw q at lo) (rw q at hi) (rw q at z))

pub loop-p-init : goal.loop-p-init
loop-p-init c =
    let o = c.of-p-items.ensures in
    let i = c.into_iter-p-iterator.ensures.into_iter_gives in
    rw i (o.1, omega arith, c.requires, omega arith, rw o.0 (record { none = λ i l. absurd (omega arith) }))

pub event_of-requires : goal.event_of-requires
event_of-requires c = omega (arith, c.in-Some.ensures.steps.1.1, c.loop-p.invariant.0)

pub nearer-best-requires : goal.nearer-best-requires
unfolding station_at
nearer-best-requires c =
    let a = c.args.archive in
    (rw c.event_of.ensures (station-small a.bytes.now a.tested c.in-Some.p.number (omega (arith, c.in-Some.ensures.steps.1.1, c.loop-p.invariant.0))), c.loop-p.invariant.2)

pub loop-p-preserved : goal.loop-p-preserved
loop-p-preserved c =
    let n = c.in-Some.ensures.steps in
    let g = c.nearer-best.ensures in (
      n.0 ∙ c.loop-p.invariant.0,
      omega (arith, n.0, n.1.1, n.1.2),
      g.0,
      omega (arith, g.1, c.loop-p.invariant.3),
      rw n.1.2 (none_more (rw (sym n.1.0) at c.loop-p.invariant.4) _ _ g.1 (sym c.event_of.ensures) g.2),
    )
