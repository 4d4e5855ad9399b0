use Prim.Native.Nat.{ℕ, ◌+◌, ◌-◌}
use mathlib.Core.Path.{◌≡◌, ◌∙◌, sym, ap}
use mathlib.Core.List.{[], ◌++◌, append-nil}
use native.Mathlib.Omega.{arith}
use lib.ListN.{length, take, drop, length-drop, drop_of_length-le}
use Rattle.std.proofs.lemmas.List.Edits.{paste_all}
use lib.Seq.{take_at}
use Rattle.codec.specs.Every.{blank}
use Rattle.codec.proofs.BlankLaws.{blank-length}
use Rattle.queue.proofs.drop_front.Goals as goal

pub returns : goal.returns
returns c =
    let s = c.args in
    let d = s.d.now in
    let n : ℕ = length d - s.k in
    let f = c.copy_within.new.self in
    let m : length (drop s.k d) ≡ n = length-drop s.k d in
    let q : 0 + n ≡ n = omega arith in
    let p : f ≡ drop s.k d ++ drop n d = c.copy_within.ensures.after ∙ paste_all d 0 (drop s.k d) n (sym m) ∙ ap (λ (k : ℕ). drop s.k d ++ drop k d) q in
    let l : length f ≡ length d = c.copy_within.ensures.len in
    let t : take n f ≡ drop s.k d = ap (take n) p ∙ take_at (drop s.k d) (drop n d) n m in
    let z : drop (n + length (blank s.k)) f ≡ [] = drop_of_length-le f {i = n + length (blank s.k)} (omega (arith, blank-length s.k)) in
    c.put_zeros.ensures ∙ rw (t, z, append-nil)
