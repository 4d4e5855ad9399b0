use native.Mathlib.Omega.{arith}
use Rattle.block_test.proofs.SweepLaws.{looked_each, looked-low}
use Rattle.block_test.proofs.Seen.fit.Goals as goal

pub returns-then-seen-le-LAST_PHASE : goal.returns-then-seen-le-LAST_PHASE
returns-then-seen-le-LAST_PHASE c =
    let a = c.args in
    let s = c.up_to-seen in
    let l = rw (s.ensures.0, s.ensures.1, s.ensures.2) at s.result.looked in
    looked-low a.self.known.now a.self.block.now a.end s.result.wrong s.result.least s.result.spare s.result.phases l (omega (arith, c.if-seen-le-LAST_PHASE.true))

pub returns : goal.returns
returns c =
    let a = c.args in
    let s = c.up_to-seen in
    let l = rw (s.ensures.0, s.ensures.1, s.ensures.2) at s.result.looked in
    looked_each a.self.known.now a.self.block.now a.end s.result.wrong s.result.least s.result.spare s.result.phases l c.phases_fit.result c.phases_fit.ensures
