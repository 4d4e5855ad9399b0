use Prim.Native.Nat.{◌-◌}
use mathlib.Core.Path.{◌≡◌}
use native.Mathlib.Omega.{arith}
use lib.ListN.{length, take, drop, length-drop}
use lib.Seq.{take_all}
use Rattle.link.proofs.is_control.Goals as goal

pub returns : goal.returns
returns c =
    let l = c.args.part.now in
    let f : take (length l - 1) (drop 1 l) ≡ drop 1 l = take_all (length l - 1) (drop 1 l) (simp length-drop (omega arith)) in
    rw (rw f at c.zeros.ensures)
