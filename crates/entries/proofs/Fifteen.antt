-- The test of an entries block looks at no start but the fifteen: by any starts of which the first fifteen are these, the same bytes are a block, with the
-- same records. Assumes nothing.
use Prim.Native.Nat.{ℕ, ◌+◌, ◌-◌, ◌<◌}
use mathlib.Core.Path.{◌≡◌, refl, ◌∙◌, sym, ap}
use mathlib.Core.List.{List}
use mathlib.Core.Bool.{Bool, true, false, ◌&&◌}
use native.Mathlib.Omega.{arith}
use lib.Dec.{eqb}
use lib.ListN.{length, get_or, take, drop}
use Rattle.codec.specs.Rows.{upto}
use Rattle.codec.specs.Every.{every, all_zero}
use Rattle.codec.proofs.Stride.{upto_at}
use Rattle.codec.proofs.EveryLaws.{every_same}
use Rattle.checksum.specs.Check.{block_size}
use Rattle.record.specs.Record.{well_made_record}
use Rattle.entries.specs.Starts.{record_start}
use Rattle.entries.specs.Entries.{count_of, record_of, front_fits, body_fits, well_made_entries}
use Rattle.entries.proofs.Laws.{front_parts}

module _ (start : ℕ → ℕ) (fifteen : upto 15 start ≡ upto 15 record_start) where
  start_same : (k : ℕ) → k < 15 → start k ≡ record_start k
  start_same k h = sym (upto_at 15 start k 0 h) ∙ ap (λ (l : List ℕ). get_or l k 0) fifteen ∙ upto_at 15 record_start k 0 h

  -- record k
  pub record_same : (l : List ℕ) (k : ℕ) → k < 15 → take 32 (drop (start k) l) ≡ record_of l k
  unfolding record_of
  record_same l k h = rw (start_same k h)

  -- the records by these starts, and zeros behind the last one
  unfoldable pub body_by : List ℕ → ℕ → Bool
  body_by l count =
      every count (λ (k : ℕ). well_made_record (take 32 (drop (start k) l)))
      && all_zero (take (510 - (start (count - 1) + 32)) (drop (start (count - 1) + 32) l))

  -- the block
  pub block_same : (l : List ℕ) → (eqb (length l) block_size && (front_fits l && body_by l (count_of l))) ≡ well_made_entries l
  unfolding body_by body_fits well_made_entries
  block_same l = go (front_fits l) refl
    where
      go : (t : Bool) → front_fits l ≡ t → (eqb (length l) block_size && (t && body_by l (count_of l))) ≡ (eqb (length l) block_size && (t && body_fits l (count_of l)))
      go false e = refl
      go true e =
          let p = front_parts l e in
          let s : start (count_of l - 1) + 32 ≡ record_start (count_of l) = omega (arith, p.2, p.3, start_same (count_of l - 1) (omega (arith, p.3))) in
          let r = every_same (count_of l) (λ (k : ℕ). well_made_record (take 32 (drop (start k) l))) (λ (k : ℕ). well_made_record (record_of l k)) (λ (k : ℕ) (h : k < count_of l). ap well_made_record (record_same l k (omega (arith, p.3)))) in
          rw (r, s)
