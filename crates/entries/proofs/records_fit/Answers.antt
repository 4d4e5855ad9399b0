use Prim.Native.Nat.{ℕ, ◌+◌, ◌*◌, ◌-◌}
use mathlib.Core.Path.{◌≡◌, ◌∙◌, sym}
use native.Mathlib.Omega.{arith}
use mathlib.Core.Bool.{Bool}
use mathlib.Core.List.{List}
use lib.ListN.{take, drop}
use Rattle.codec.proofs.EveryLaws.{every_none, every_more, every_fails}
use Rattle.record.specs.Record.{well_made_record}
use Rattle.entries.specs.Entries.{records_fit}
use Rattle.entries.proofs.records_fit.Goals as goal

-- what the test of the part lent says of record k
tested : (rs : List ℕ) (k : ℕ) (b : Bool) → b ≡ well_made_record (take (k * 32 + 32 - k * 32) (drop (k * 32) rs)) → well_made_record (take 32 (drop (k * 32) rs)) ≡ b
tested rs k b h = let e : k * 32 + 32 - k * 32 ≡ 32 = omega arith in sym (rw e at h)

pub loop-k-init : goal.loop-k-init
loop-k-init c = (omega arith, every_none _)

pub returns-then-not-well_made : goal.returns-then-not-well_made
unfolding records_fit
returns-then-not-well_made c =
    let k = c.loop-k.k in
    let rs = c.args.rs.now in
    sym (every_fails c.args.count (λ (k : ℕ). well_made_record (take 32 (drop (k * 32) rs))) k (omega arith)
    (tested rs k c.well_made.result c.well_made.ensures ∙ c.if-not-well_made.true))

pub loop-k-preserved : goal.loop-k-preserved
loop-k-preserved c =
    let k = c.loop-k.k in
    let rs = c.args.rs.now in
    (omega arith, every_more k _ c.loop-k.invariant.1 (tested rs k c.well_made.result c.well_made.ensures ∙ c.if-not-well_made.false))

pub returns : goal.returns
unfolding records_fit
returns c = let e : c.loop-k.k ≡ c.args.count = omega arith in sym (rw e at c.loop-k.invariant.1)
