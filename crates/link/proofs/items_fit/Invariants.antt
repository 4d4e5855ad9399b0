use Prim.Native.Nat.{ℕ}
use mathlib.Core.Path.{◌≡◌}
use lib.ListN.{length}
use Rattle.codec.specs.Every.{every}
use Rattle.clock.specs.Range.{counts_fit as fit}
use Rattle.queue.specs.Queue.{place_at}
use Rattle.link.specs.Image.{item_test, sized}
use Rattle.link.proofs.items_fit.Given as goal

abbrev pub invariant-loop-k : goal.invariant-loop-k
invariant-loop-k l = (length l.most ≡ 8) × (every l.k (λ (i : ℕ). item_test (sized l.n l.t) (place_at 21 l.part i)) ≡ fit l.n l.t l.most)
