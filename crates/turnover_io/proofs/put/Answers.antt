use Rattle.std.proofs.Common.{◌≡◌, ℕ, ◌+◌, ◌-◌, ◌≤◌, List, length, take, drop, Result, Ok, Err, arith, length-drop}
use Rattle.std.proofs.Math.Seq.{take-add}
use Rattle.std.proofs.lemmas.List.{take_rest}
use Rattle.std.proofs.KnownBytes.{Appends-trans, Appends-kept}
use Rattle.std.specs.Io.{WritesAtMost}
use Rattle.std.specs.Io.KnownBytes.{Appends, WriteAppends}
use Rattle.std.specs.declared.option.Option.{Option}
use Rattle.turnover_io.proofs.put.Goals as goal
use Rattle.turnover_io.proofs.put.Goals.{in-Ok, in-Err+in_ok-again-in-Err}

-- a write took what it says of the rest
module _ {E : Type 0} (a b c : Option (List ℕ)) (bs : List ℕ) (done : ℕ) (r : Result ℕ E) (h : done ≤ length bs) (p : Appends a b (take done bs))
    (w : WritesAtMost r (drop done bs)) (q : WriteAppends b c r (drop done bs)) where
  taken : (n : ℕ) → r ≡ Ok n → (done + n ≤ length bs) × Appends a c (take (done + n) bs)
  taken n e =
      let v = rw e at w in
      (let k : n ≤ length bs - done = simp length-drop at v in omega arith, rw take-add (Appends-trans a b c _ _ p (rw e at q)))

  failed : (x : E) → r ≡ Err x → (done ≤ length bs) × Appends a c (take done bs)
  failed x e = (h, Appends-kept a b c _ p (rw e at q))

pub loop-preserved : goal.loop-preserved
loop-preserved g c =
    let i = c.loop.invariant in
    let w = c.write.ensures in
    elim c.match-write.branch [
      | in-Ok v ↦ rw v.done-is (taken _ _ _ _ _ _ i.0 i.1 (rw (take_rest _ _) at w.bound) (rw (take_rest _ _) at w.bytes) _ v.in-Ok.is)
      | in-Err+in_ok-again-in-Err v ↦ rw v.done-is (failed _ _ _ _ _ _ i.0 i.1 (rw (take_rest _ _) at w.bound) (rw (take_rest _ _) at w.bytes) _ v.in-Err.is)
    ]
