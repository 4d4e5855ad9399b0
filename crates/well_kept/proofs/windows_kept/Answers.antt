use Prim.Native.Nat.{ℕ, ◌-◌, ◌≤◌, ◌<◌}
use native.Mathlib.Omega.{arith}
use mathlib.Core.Path.{◌≡◌, sym, ◌∙◌, refl, subst}
use mathlib.Core.List.{List, ◌++◌}
use lib.ListN.{length, drop}
use lib.Seq.{length_front}
use Rattle.archive.specs.Archive.{records}
use Rattle.lists.specs.Lists.{Arranged, same}
use Rattle.well_kept.specs.Keys.{keys_in}
use Rattle.well_kept.specs.Windows.{Checked}
use Rattle.well_kept.proofs.DriverLaws.{checked_none, checked_all, window_kept, window_not, too_many}
use Rattle.well_kept.proofs.windows_kept.Goals as goal
use Rattle.well_kept.proofs.windows_kept.Goals.{After-gather-w, After-sorted_run}

-- ---- where a window has been gathered
module _ (c : goal.After-gather-w) where
  beyond : c.loop-lo.lo < c.min-hi.result
  beyond = omega (arith, c.min-hi.ensures, c.loop-lo.invariant.1, c.loop-lo-test.true)

  long : length c.gather-w.new.list ≡ length c.args.list.now
  long = c.gather-w.ensures.0 ∙ c.loop-lo.invariant.3

-- ---- where one with places for all has been sorted
module _ (c : goal.After-sorted_run) where
  abbrev n : ℕ
  n = c.gather-w.result.count

  abbrev list : List ℕ
  list = c.gather-w.new.list

  size : length list ≡ length c.args.list.now
  size = c.gather-w.ensures.0 ∙ c.loop-lo.invariant.3

  arranged : Arranged same (keys_in c.args.archive.bytes.now c.loop-lo.lo c.min-hi.result (records c.args.archive.bytes.now)) c.sorted_run.new.list
  arranged = let fits : n ≤ length list = omega (arith, c.if-places-n.false, size) in rw (c.gather-w.ensures.1.listed fits) at c.sorted_run.ensures.0

  -- the whole list is as long as before
  kept_length : length (c.sorted_run.new.list ++ drop n list) ≡ length c.args.list.now
  kept_length = length_front list c.sorted_run.new.list n c.sorted_run.ensures.0.size ∙ size

pub loop-lo-init : goal.loop-lo-init
loop-lo-init c =
    (omega arith, omega arith, omega arith, refl, checked_none c.args.archive.bytes.now c.args.archive.tested c.args.archive.fit)

pub returns-then-span-lt2 : goal.returns-then-span-lt2
returns-then-span-lt2 c =
    let a = c.args.archive in
    sym (too_many a.bytes.now a.tested a.fit c.gather-w.ensures.1 (omega (arith, c.min-hi.ensures, c.loop-lo.invariant.1, c.if-span-lt2.true, c.loop-lo-test.true)) (omega (arith, c.if-places-n.true, c.requires)))

pub returns-in_default : goal.returns-in_default
returns-in_default c =
    let p = (goal.at.returns-in_default c).After-sorted_run in
    let g = (goal.at.returns-in_default c).After-gather-w in
    let a = c.args.archive in
    sym (window_not a.bytes.now a.tested a.fit c.gather-w.ensures.1 c.loop-lo.invariant.4 (omega (arith, beyond g)) c.sorted_run.new.list (arranged p) c.in_default.ensures.1)

pub loop-lo-preserved : goal.loop-lo-preserved
loop-lo-preserved c =
    let p = (goal.at.loop-lo-preserved c).After-sorted_run in
    let g = (goal.at.loop-lo-preserved c).After-gather-w in
    let a = c.args.archive in
    let w = c.gather-w.ensures.1 in
    let s = c.in-Some.ensures.1 in
    let checked : Checked a.bytes.now (c.gather-w.result.next - 1) c.in-Some.latest
    = subst (λ (q : ℕ). Checked a.bytes.now (c.gather-w.result.next - 1) q) (sym s.1)
    (window_kept a.bytes.now a.tested a.fit w c.loop-lo.invariant.4 (omega (arith, beyond g)) c.sorted_run.new.list (arranged p) s.0)
    in (omega (arith, w.least, w.above), c.fitting-span.ensures.0, c.fitting-span.ensures.1, kept_length p, checked)

pub returns : goal.returns
returns c =
    let a = c.args.archive in
    sym (checked_all a.bytes.now a.tested a.fit c.loop-lo.lo c.loop-lo.last c.loop-lo.invariant.4 (omega (arith, c.loop-lo-test.false)))
