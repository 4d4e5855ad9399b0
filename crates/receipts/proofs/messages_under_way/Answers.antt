use Prim.Native.Nat.{ℕ, ◌+◌}
use mathlib.Core.Path.{◌≡◌, refl, ◌∙◌, sym, ap}
use mathlib.Core.List.{List}
use native.Mathlib.Omega.{arith}
use Rattle.codec.specs.Num.{AreBytes}
use Rattle.codec.specs.Every.{sum}
use Rattle.codec.proofs.EveryLaws.{sum_none, sum_more}
use Rattle.area.proofs.Parts.{link-long}
use Rattle.area_edit.proofs.PartLaws.{link_part}
use Rattle.receipts.proofs.Laws.{on_link, under_way_lem, long, count_most}
use Rattle.receipts.proofs.messages_under_way.Goals as goal

pub messages_on-m-requires : goal.messages_on-m-requires
messages_on-m-requires c =
    let k = c.loop-k.k in
    let a : List ℕ = c.args.area.now in
    let bytes : AreBytes a = λ i. omega (arith, c.type_inv.area i) in
    rw (link_part a k refl) (link-long a (long a c.requires) k (omega arith), count_most a c.requires bytes k (omega arith))

pub loop-k-preserved : goal.loop-k-preserved
loop-k-preserved c =
    let a = c.args.area.now in
    let k = c.loop-k.k in
    let s : sum (k + 1) (on_link a) ≡ sum k (on_link a) + on_link a k = sum_more k (on_link a) in
    let t = rw (link_part a k refl) at c.messages_on-m.ensures.0 in
    (omega arith, omega arith, omega arith)

pub returns : goal.returns
returns c =
    let a = c.args.area.now in
    let e : c.loop-k.k ≡ 64 = omega arith in
    (c.loop-k.invariant.1 ∙ (ap (λ (n : ℕ). sum n (on_link a)) e ∙ sym (under_way_lem a)), omega arith)

pub loop-k-init : goal.loop-k-init
loop-k-init c = (omega arith, sym (sum_none _), omega arith)

pub slice_bounds-messages_on-end : goal.slice_bounds-messages_on-end
slice_bounds-messages_on-end c = omega (arith, long _ c.requires)
