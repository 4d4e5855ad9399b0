use Prim.Native.Nat.{ℕ, ◌+◌}
use mathlib.Core.Path.{◌≡◌, ◌∙◌, sym, ap}
use native.Mathlib.Omega.{arith}
use lib.ListN.{get_or}
use Rattle.codec.specs.Every.{sum}
use Rattle.codec.proofs.EveryLaws.{sum_none, sum_more}
use Rattle.receipts.proofs.Laws.{bool-small, messages_at, messages_at_is, messages-are}
use Rattle.receipts.proofs.messages_on.Goals as goal

pub loop-k-preserved : goal.loop-k-preserved
loop-k-preserved c =
    let a = c.args.part.now in
    let k = c.loop-k.k in
    let s : sum (k + 1) (messages_at a) ≡ sum k (messages_at a) + messages_at a k = sum_more k (messages_at a) in
    let t : messages_at a k ≡ c.from-m.result = messages_at_is a k ∙ sym c.from-m.ensures in
    (omega arith, omega (arith, c.from-m.ensures, bool-small))

pub returns : goal.returns
returns c =
    let a = c.args.part.now in
    let e : c.loop-k.k ≡ get_or a 0 0 = omega arith in
    (c.loop-k.invariant.0 ∙ (ap (λ (n : ℕ). sum n (messages_at a)) e ∙ sym (messages-are a)), omega arith)

pub loop-k-init : goal.loop-k-init
loop-k-init c = (sym (sum_none _), omega arith)
