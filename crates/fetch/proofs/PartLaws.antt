-- What a splice leaves of a list: the part that it wrote, those before it and those behind it. Assumes nothing.
use Prim.Native.Nat.{ℕ, ◌+◌, ◌-◌, ◌≤◌}
use mathlib.Core.Path.{◌≡◌}
use mathlib.Core.List.{List, ◌++◌, append_assoc}
use native.Mathlib.Omega.{arith}
use lib.ListN.{length, take, drop, length-append, length-drop}
use lib.Seq.{length-take-le, take_at, drop_at, take-take, take-append-le, drop-append-le, drop-drop}
use Rattle.codec.specs.Splice.{splice}
use Rattle.codec.proofs.SpliceLaws.{drop_past, drop-take}

module _ (d v : List ℕ) (o : ℕ) (fits : o + length v ≤ length d) where
  pub spliced_part : (w : ℕ) → length v ≡ w → take w (drop o (splice d o v)) ≡ v
  spliced_part w e = rw (drop_at (take o d) (v ++ drop (o + length v) d) o (length-take-le o d (omega arith))) (take_at v (drop (o + length v) d) w e)

  pub spliced_before : (i w : ℕ) → i + w ≤ o → take w (drop i (splice d o v)) ≡ take w (drop i d)
  spliced_before i w h =
      let n : length (take o d) ≡ o = length-take-le o d (omega arith) in
      let m : w ≤ length (drop i (take o d)) = rw length-drop (omega arith) in
      rw (drop-append-le i (take o d) (v ++ drop (o + length v) d) (omega arith), take-append-le w (drop i (take o d)) (v ++ drop (o + length v) d) m, drop-take)
      (take-take w (o - i) (drop i d) (omega arith))

  pub spliced_behind : (i : ℕ) → o + length v ≤ i → drop i (splice d o v) ≡ drop i d
  spliced_behind i h =
      let n : length (take o d) ≡ o = length-take-le o d (omega arith) in
      let m : length (take o d ++ v) ≡ o + length v = rw length-append (omega arith) in
      let e : i ≡ o + length v + (i - (o + length v)) = omega arith in
      rw (← append_assoc (take o d) v (drop (o + length v) d), e, drop_past (take o d ++ v) (drop (o + length v) d) (o + length v) (i - (o + length v)) m, drop-drop)
