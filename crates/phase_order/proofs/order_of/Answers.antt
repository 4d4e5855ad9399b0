use Prim.Native.Nat.{ℕ, max, ◌≤◌, ◌<◌}
use mathlib.Core.Path.{◌≡◌, ◌∙◌, sym}
use mathlib.Core.Bool.{false, ◌&&◌, and-false}
use native.Mathlib.Omega.{arith}
use native.Mathlib.Decide.{dec_le}
use lib.Dec.{ltb}
use borrow.Author.Tests.{lt-ltb, le-ltb}
use Rattle.std.proofs.lemmas.Result.{err_from_is_err_and}
use Rattle.archive.specs.Archive.{records}
use Rattle.phase_order.specs.ByNumber.{order_of}
use Rattle.phase_order.proofs.Laws.{order_is}
use Rattle.phase_order.proofs.order_of.Goals as goal

-- one of two numbers is of no record where the greater is not
not_both : (i j n : ℕ) → n ≤ max i j → (ltb i n && ltb j n) ≡ false
not_both i j n h = go (dec_le n i)
  where
    go : Dec (n ≤ i) → (ltb i n && ltb j n) ≡ false
    go (yes l) = rw (le-ltb i n l)
    go (no l) = rw (le-ltb j n (omega (arith, l))) (and-false (ltb i n))

pub returns-in_err-archive : goal.returns-in_err-archive
unfolding order_of
returns-in_err-archive c =
    let p = err_from_is_err_and c.from_residual.result c.from_residual.ensures.1 in
    let e = c.in_err-archive.ensures.err in
    rw (p.1, p.2, e.0) (rw e.1)

pub returns-then-records-max : goal.returns-then-records-max
unfolding order_of
returns-then-records-max c =
    let t = c.in_ok-archive.archive in
    rw (← c.in_ok-archive.ensures.ok, t.tested, ← c.records.ensures, not_both c.args.first c.args.second c.records.result (omega (arith, c.max.ensures, c.if-records-max.true)))

pub returns-then-not-test : goal.returns-then-not-test
unfolding order_of
returns-then-not-test c =
    let a = c.in_ok-archive.archive in
    let i : c.args.first < records a.bytes.now = omega (arith, c.records.ensures, c.max.ensures, c.if-records-max.false) in
    let j : c.args.second < records a.bytes.now = omega (arith, c.records.ensures, c.max.ensures, c.if-records-max.false) in
    rw (← c.in_ok-archive.ensures.ok, a.tested, lt-ltb _ _ i, lt-ltb _ _ j, sym c.test.ensures ∙ c.if-not-test.true)

pub event_of-x-requires : goal.event_of-x-requires
event_of-x-requires c = omega (arith, c.records.ensures, c.max.ensures, c.if-records-max.false)

pub event_of-y-requires : goal.event_of-y-requires
event_of-y-requires c = omega (arith, c.records.ensures, c.max.ensures, c.if-records-max.false)

pub returns : goal.returns
returns c =
    let a = c.in_ok-archive.archive in
    let e = order_is a.bytes.now c.args.first c.args.second a.tested (omega (arith, c.records.ensures, c.max.ensures, c.if-records-max.false)) (omega (arith, c.records.ensures, c.max.ensures, c.if-records-max.false)) (sym c.test.ensures ∙ c.if-not-test.false) in
    rw (← c.in_ok-archive.ensures.ok, e, ← c.event_of-x.ensures, ← c.event_of-y.ensures, ← c.verdict_between.ensures)
