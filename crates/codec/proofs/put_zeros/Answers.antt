use Prim.Native.Nat.{◌+◌, ◌-◌}
use mathlib.Core.Path.{◌≡◌, ◌∙◌, ap}
use native.Mathlib.Omega.{arith}
use lib.ListN.{length, take, drop, length-take, length-drop}
use Rattle.codec.specs.Every.{blank}
use Rattle.codec.proofs.BlankLaws.{blank-length}
use Rattle.codec.proofs.SpliceLaws.{lent}
use Rattle.codec.proofs.put_zeros.Goals as goal

pub returns : goal.returns
unfolding blank
returns c =
    let a = c.args in
    let e : length (take (a.at + a.n - a.at) (drop a.at a.d.now)) ≡ a.n = simp (length-take, length-drop) (omega arith) in
    let b : length (blank a.n) ≡ a.n = blank-length a.n in
    lent a.d.now c.fill.new.self (blank a.n) a.at (a.at + a.n) (c.fill.ensures.after (λ y h. h) ∙ ap blank e) (omega arith)
