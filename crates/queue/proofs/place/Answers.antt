use Prim.Native.Nat.{ℕ, ◌+◌, ◌*◌, ◌-◌}
use mathlib.Core.Path.{◌≡◌, refl}
use native.Mathlib.Omega.{arith}
use lib.ListN.{length-take, length-drop}
use Rattle.queue.proofs.place.Goals as goal

pub returns : goal.returns
returns c =
    let o : ℕ = 1 + c.args.k * c.args.width in
    let e : o + c.args.width - o ≡ c.args.width = omega arith in
    rw e (refl, simp (length-take, length-drop) (omega arith))
