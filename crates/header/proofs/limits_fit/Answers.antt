use Prim.Native.Nat.{ℕ}
use mathlib.Core.Path.{◌≡◌, ◌∙◌, sym}
use mathlib.Core.List.{[]}
use native.Mathlib.Omega.{arith}
use lib.ListN.{get_or}
use Rattle.codec.proofs.EveryLaws.{every_none, every_more, every_fails}
use Rattle.header.specs.Header.{row_in_range, limits_in_range}
use Rattle.header.proofs.limits_fit.Goals as goal

pub loop-i-init : goal.loop-i-init
loop-i-init c = (omega arith, every_none _)

pub returns-then-not-row_fits : goal.returns-then-not-row_fits
unfolding limits_in_range
returns-then-not-row_fits c = sym (every_fails 8 (λ (i : ℕ). row_in_range (get_or c.args.limits i [])) c.loop-i.i (omega arith) (sym c.row_fits.ensures ∙ c.if-not-row_fits.true))

pub loop-i-preserved : goal.loop-i-preserved
loop-i-preserved c = (omega arith, every_more _ _ c.loop-i.invariant.1 (sym c.row_fits.ensures ∙ c.if-not-row_fits.false))

pub returns : goal.returns
unfolding limits_in_range
returns c = let e : c.loop-i.i ≡ 8 = omega arith in sym (rw e at c.loop-i.invariant.1)
