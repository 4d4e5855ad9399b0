use Prim.Native.Nat.{◌≤◌}
use mathlib.Core.Path.{◌≡◌}
use Rattle.codec.specs.Every.{sum}
use Rattle.receipts.proofs.Laws.{messages_at}
use Rattle.receipts.proofs.messages_on.Given as goal

abbrev pub invariant-loop-k : goal.invariant-loop-k
invariant-loop-k l = (l.m ≡ sum l.k (messages_at l.part)) × (l.m ≤ l.k)
