use native.Mathlib.Omega.{arith}
use Rattle.codec.proofs.RunLaws.{scanned_ends, scanned_more, scanned_all}
use Rattle.codec.proofs.zero_run.Goals as goal

pub returns-then-n-lt32 : goal.returns-then-n-lt32
returns-then-n-lt32 c = c.zeros.ensures

pub loop-i-init : goal.loop-i-init
loop-i-init c =
    let a = c.args in
    (omega arith, rw (c.zeros_at.ensures, c.zeros_at-2.ensures) (scanned_ends a.s.now a.lead (omega arith) (omega arith)))

pub loop-i-preserved : goal.loop-i-preserved
loop-i-preserved c =
    let l = c.loop-i in
    (omega arith, rw c.zeros_at-ok.ensures (scanned_more c.args.s.now l.ok l.i 512 l.invariant.1))

pub loop-i-2-init : goal.loop-i-2-init
loop-i-2-init c = c.loop-i.invariant

pub loop-i-2-preserved : goal.loop-i-2-preserved
loop-i-2-preserved c =
    let l = c.loop-i-2 in
    (omega arith, rw c.zeros_at-ok-in-loop-i-2.ensures (scanned_more c.args.s.now l.ok l.i 32 l.invariant.1))

pub returns : goal.returns
returns c =
    let l = c.loop-i-2 in
    scanned_all c.args.s.now l.ok l.i l.invariant.1 (omega arith)
