use Prim.Native.Nat.{ℕ, ◌+◌, ◌*◌, ◌-◌, ◌≤◌, ◌<◌}
use mathlib.Core.Path.{◌≡◌, ◌∙◌, sym, ap}
use mathlib.Core.List.{List, ◌++◌}
use native.Mathlib.Omega.{arith}
use borrow.Author.Rules.{rules}
use native.Mathlib.Nat.{one-mul, mul-le-mul_right}
use lib.ListN.{length, get_or, set, take, drop, length-append, length-drop, length-take}
use Rattle.codec.specs.Every.{blank}
use Rattle.codec.proofs.BlankLaws.{blank-length}
use Rattle.codec.proofs.SpliceLaws.{lent}
use Rattle.queue.proofs.pop.Goals as goal

-- one item is no wider than all
one : (n w : ℕ) → 0 < n → w ≤ n * w
one n w h = rw (one-mul w) at (mul-le-mul_right {m = 1} {n = n} w (omega arith))

pub drop_front-requires : goal.drop_front-requires
drop_front-requires c =
    let e : c.from.result ≡ get_or c.args.part.now 0 0 = search rules in
    rw e (simp (length-take, length-drop) (omega (arith, one (get_or c.args.part.now 0 0) c.args.width c.requires.0)))

pub returns : goal.returns
returns c =
    let l = c.args.part.now in
    let w = c.args.width in
    let n : ℕ = get_or l 0 0 * w in
    let e : c.from.result ≡ get_or l 0 0 = search rules in
    let h : w ≤ n = one (get_or l 0 0) w c.requires.0 in
    let k : 1 + n - 1 ≡ n = omega arith in
    let vs : List ℕ = drop w (take n (drop 1 l)) ++ blank w in
    let m : length vs ≡ n = simp (length-append, length-drop, length-take, blank-length) (omega arith) in
    rw e (ap (λ (m : List ℕ). set m 0 (get_or l 0 0 - 1)) (lent l c.drop_front.new.d vs 1 (1 + n) (rw (e, k) at c.drop_front.ensures) (k ∙ sym m)))
