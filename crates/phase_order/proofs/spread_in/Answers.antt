use Prim.Native.Nat.{◌+◌, ◌/◌}
use mathlib.Core.Path.{◌≡◌}
use native.Mathlib.Omega.{arith}
use lib.ListN.{length}
use borrow.Author.Rules.{rules}
use Rattle.phase_order.proofs.ReachLaws.{table_stays, table-joins}
use Rattle.phase_order.proofs.spread_in.Goals as goal

pub returns-in_default : goal.returns-in_default
returns-in_default c =
    let t = c.lasts.ensures in (
      t.0,
      omega (arith, t.0, c.requires.0),
      omega (arith, t.0),
      λ x d p w e g. let m : e ≡ d + length c.lasts.new.table / 8 = omega arith in
          rw m (table_stays c.args.archive.bytes.now x c.args.from w p t.1 (length c.lasts.new.table / 8) (omega arith) c.in_default.ensures),
    )

pub returns : goal.returns
returns c =
    let j = c.in-Some.ensures in
    let t = c.lasts.ensures in (
      t.0,
      omega arith,
      omega (arith, j.0, t.0),
      λ x d p w e g. let m : e ≡ d + c.in-Some.q + 1 = omega arith in
          rw m
          (table-joins c.args.archive.bytes.now x c.args.from w p t.1 c.in-Some.q j.0
          (table_stays c.args.archive.bytes.now x c.args.from w p t.1 c.in-Some.q (omega (arith, j.0)) j.1) c.join.result (search rules) c.join.ensures),
    )
