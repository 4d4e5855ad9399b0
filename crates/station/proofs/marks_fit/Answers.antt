use Prim.Native.Nat.{ℕ}
use mathlib.Core.Path.{◌≡◌, refl, ◌∙◌, sym}
use mathlib.Core.Bool.{Bool, true, false, not, cond}
use mir.Val.{bool_byte}
use lib.Dec.{eqb}
use Rattle.station.specs.Test.{mark_bound}
use native.Mathlib.Omega.{arith}
use Rattle.codec.proofs.EveryLaws.{every_none}
use Rattle.codec.proofs.FlagLaws.{every_turn}
use Rattle.station.proofs.marks_fit.Goals as goal

-- the greatest byte of a mark, by its limit
bound_is : (m : ℕ) → bool_byte (not (eqb m 0)) ≡ mark_bound m
bound_is m = go (eqb m 0)
  where
    go : (b : Bool) → bool_byte (not b) ≡ cond b 0 1
    go true = refl
    go false = refl

pub loop-j-init : goal.loop-j-init
loop-j-init c = (omega arith, sym (every_none _))

pub loop-j-preserved : goal.loop-j-preserved
loop-j-preserved c = (omega arith, rw (every_turn, c.loop-j.invariant.1, c.from-most.ensures ∙ bound_is _))

pub returns : goal.returns
returns c = let e : c.loop-j.j ≡ 8 = omega arith in rw e at c.loop-j.invariant.1
