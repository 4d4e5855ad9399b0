use Prim.Native.Nat.{ℕ, ◌/◌, ◌%◌}
use mathlib.Core.Path.{◌≡◌, refl, ◌∙◌, sym, ap}
use mathlib.Core.List.{List, []}
use native.Mathlib.Omega.{arith}
use lib.ListN.{get_or, length-set}
use Rattle.codec.specs.Splice.{splice}
use Rattle.codec.proofs.SpliceLaws.{splice_none}
use Rattle.codec.proofs.Stride.{made_turn, upto_none}
use Rattle.header.specs.Header.{table_of}
use Rattle.header.proofs.store_limits.Goals as goal

pub loop-k-init : goal.loop-k-init
loop-k-init c = (omega arith, refl, sym (ap (λ (v : List ℕ). splice c.args.d.now 32 v) (upto_none _) ∙ splice_none c.args.d.now 32))

pub loop-k-preserved : goal.loop-k-preserved
loop-k-preserved c =
    let l = c.loop-k in
    let a = c.args in
    (omega arith, simp length-set (omega arith), made_turn a.d.now l.d (λ (k : ℕ). get_or (get_or a.limits (k / 8) []) (k % 8) 0) 32 l.k (omega arith) l.invariant.2)

pub returns : goal.returns
unfolding table_of
returns c = let e : c.loop-k.k ≡ 64 = omega arith in rw e at c.loop-k.invariant.2
