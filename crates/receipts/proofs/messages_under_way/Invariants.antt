use Prim.Native.Nat.{◌*◌, ◌≤◌}
use mathlib.Core.Path.{◌≡◌}
use Rattle.codec.specs.Every.{sum}
use Rattle.receipts.proofs.Laws.{on_link}
use Rattle.receipts.proofs.messages_under_way.Given as goal

abbrev pub invariant-loop-k : goal.invariant-loop-k
invariant-loop-k l = (l.k ≤ 64) × (l.m ≡ sum l.k (on_link l.area)) × (l.m ≤ l.k * 34)
