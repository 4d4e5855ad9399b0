use Prim.Native.Nat.{ℕ, ◌+◌, ◌*◌, ◌-◌, ◌/◌, ◌≤◌, ◌<◌}
use mathlib.Core.Path.{◌≡◌, refl, sym, ap, ◌∙◌}
use mathlib.Core.List.{List}
use native.Mathlib.Omega.{arith}
use lib.ListN.{length, get_or, set, length-set}
use mathlib.Core.Bool.{Bool, true, false, cond}
use mir.Val.{bool_byte}
use Rattle.record.specs.declared.Record.{Record}
use Rattle.events.specs.Events.{event_at, station_at, own_at}
use Rattle.phase_order.specs.Passes.{meets, marked, Table}
use Rattle.phase_order.proofs.PassLaws.{table-out, table-under, table_more}
use Rattle.phase_order.proofs.mark.Goals as goal

-- ---- record n, which is e, behind a table
module _ (from : ℕ) (asked : List ℕ) (e : Record) (own : ℕ) (small : e.station < 8) (table : List ℕ) (a : List ℕ) (n : ℕ)
    (is : event_at a n ≡ e) (o : own_at a n ≡ own) (w : Table a from asked n table) where
  station : station_at a n ≡ e.station
  unfolding station_at
  station = ap (λ (r : Record). r.station) is

  phase : (event_at a n).phase ≡ e.phase
  phase = ap (λ (r : Record). r.phase) is

  known : station_at a n < 8
  known = omega (arith, station)

  early : e.phase < from → Table a from asked (n + 1) table
  early l = table-out a from asked w known (λ q m d. omega (arith, phase))

  module _ (le : from ≤ e.phase) where
    behind : length table ≤ (e.phase - from) * 8 + e.station → Table a from asked (n + 1) table
    behind l = table-out a from asked w known (λ q m d. omega (arith, phase, station))

    place : (e.phase - from) * 8 + e.station ≡ ((event_at a n).phase - from) * 8 + station_at a n
    place = rw (phase, station)

    module _ (inside : (e.phase - from) * 8 + e.station < length table) where
      under : own ≤ get_or table ((e.phase - from) * 8 + e.station) 0 / 2 → Table a from asked (n + 1) table
      under l = table-under a from asked w known ((e.phase - from) * 8 + e.station) (omega (arith, phase)) place inside (omega (arith, o))

      above : (x : ℕ) → get_or table ((e.phase - from) * 8 + e.station) 0 / 2 < own → x ≡ own * 2 + cond (meets asked e.counts) 1 0
          → Table a from asked (n + 1) (set table ((e.phase - from) * 8 + e.station) x)
      unfolding marked own_at
      above x l q =
          table_more a from asked w known ((e.phase - from) * 8 + e.station) (omega (arith, phase)) place inside x (omega (arith, o))
          (q ∙ (ap (λ (c : ℕ). c * 2 + cond (meets asked e.counts) 1 0) (sym o) ∙ ap (λ (r : Record). get_or (event_at a n).counts (station_at a n) 0 * 2 + cond (meets asked r.counts) 1 0) (sym is)))

flag_small : (b : Bool) → cond b 1 0 ≤ 1
flag_small true = omega arith
flag_small false = omega arith

flag_is : (b : Bool) → bool_byte b ≡ cond b 1 0
flag_is true = refl
flag_is false = refl

pub returns-then-e-from : goal.returns-then-e-from
returns-then-e-from c = (refl, λ a n is o w. early _ _ _ _ c.requires _ a n is o w c.if-e-from.true)

pub returns-then-table-i : goal.returns-then-table-i
returns-then-table-i c =
    (refl, λ a n is o w. behind _ _ _ _ c.requires _ a n is o w c.if-e-from.false c.if-table-i.true)

pub returns-then-wide-table : goal.returns-then-wide-table
returns-then-wide-table c =
    (refl, λ a n is o w. under _ _ _ _ c.requires _ a n is o w c.if-e-from.false c.if-table-i.false (omega arith))

pub overflow_add-table : goal.overflow_add-table
overflow_add-table c = omega (arith, c.from.ensures ∙ flag_is c.meets.result, flag_small c.meets.result)

pub shape_of-table : goal.shape_of-table
shape_of-table c = simp length-set

pub returns : goal.returns
returns c =
    (simp length-set, λ a n is o w. above _ _ _ _ c.requires _ a n is o w c.if-e-from.false c.if-table-i.false _ (omega arith) (rw (c.from.ensures ∙ flag_is c.meets.result, c.meets.ensures)))
