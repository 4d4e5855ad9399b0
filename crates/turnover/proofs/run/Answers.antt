use native.Mathlib.Omega.{arith}
use Rattle.turnover_session.proofs.Laws.{passes_more, session_printed}
use Rattle.turnover.proofs.run.Goals as goal

pub returns-then-not-branch : goal.returns-then-not-branch
returns-then-not-branch g c =
    let f = c.finish.ensures in
    (session_printed c.new-session.ensures (passes_more c.loop.invariant.2.1 c.in_ok-turn.ensures.1) f.by_index, omega (arith, f.upper_bound))

pub loop-preserved : goal.loop-preserved
loop-preserved g c = let i = c.loop.invariant in (omega (arith, i.0), omega (arith, i.1), (_, passes_more i.2.1 c.in_ok-turn.ensures.1))
