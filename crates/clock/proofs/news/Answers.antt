use Prim.Native.Nat.{ℕ, ◌+◌}
use mathlib.Core.Path.{◌≡◌, sym}
use mathlib.Core.Bool.{Bool}
use native.Mathlib.Omega.{arith}
use Rattle.codec.proofs.CountLaws.{count_none, count_most, count_turn}
use Rattle.clock.specs.Timestamp.{grew_at, news}
use Rattle.clock.proofs.news.Goals as goal
use Rattle.clock.proofs.news.Goals.{Start}

-- which counts grew
abbrev p : goal.Start → ℕ → Bool
p c = grew_at c.args.i c.args.a c.args.b

pub loop-j-init : goal.loop-j-init
loop-j-init c = (omega arith, sym (count_none _))

pub overflow_add-grown : goal.overflow_add-grown
overflow_add-grown c =
    let t = count_turn (p (goal.at.overflow_add-grown c).Start) c.loop-j.j in
    omega (arith, t, c.from-grown.ensures, count_most (p (goal.at.overflow_add-grown c).Start) (c.loop-j.j + 1))

pub loop-j-preserved : goal.loop-j-preserved
loop-j-preserved c =
    (omega arith, omega (arith, count_turn (p (goal.at.loop-j-preserved c).Start) c.loop-j.j, c.from-grown.ensures))

pub returns : goal.returns
unfolding news
returns c = let e : c.loop-j.j ≡ 8 = omega arith in rw e at c.loop-j.invariant.1
