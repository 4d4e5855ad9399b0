use Prim.Native.Nat.{ℕ}
use mathlib.Core.Path.{◌≡◌}
use mathlib.Core.List.{List}
use native.Mathlib.Omega.{arith}
use borrow.Author.Rules.{rules}
use lib.ListN.{get_or, set}
use Rattle.queue.proofs.push.Goals as goal

-- the bytes behind the count, and the count
written : {l m : List ℕ} {v w : ℕ} → l ≡ m → v ≡ w → set l 0 v ≡ set m 0 w
written e f = rw (e, f)

pub returns : goal.returns
returns c =
    let e : c.from.result ≡ get_or c.args.part.now 0 0 = search rules in
    written (rw e at c.put_bytes.ensures) (omega arith)
