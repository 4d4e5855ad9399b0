-- One piece of text behind another. Assumes nothing.
use Prim.Native.Nat.{ℕ, ◌+◌, ◌/◌, ◌%◌, ◌<◌, ◌≤◌}
use mathlib.Core.Path.{◌≡◌, refl, ◌∙◌, sym}
use mathlib.Core.List.{List, [], ◌∷◌, ◌++◌}
use native.Mathlib.Omega.{arith}
use native.Mathlib.Numerals.{add-one}
use lib.ListN.{length, set, length-append}
use lib.Seq.{set_split}
use Rattle.decimal.specs.Decimal.{decimal}
use Rattle.decimal.proofs.DecimalLaws.{decimal-small, decimal_large}
use Rattle.codec.proofs.SpliceLaws.{splice-length, splice_more, splice_none}
use Rattle.turnover_output.specs.TextAt.{TextAt}

pub text_none : {l : List ℕ} {at : ℕ} → at ≤ length l → TextAt l at [] at l
text_none {l} {at} h = record { next = omega arith; fits = h; is = sym (splice_none l at) }

text_byte : (l : List ℕ) (at b : ℕ) → at < length l → TextAt l at (b ∷ []) (at + 1) (set l at b)
text_byte l at b h = record { next = refl; fits = omega arith; is = rw (set_split l at b h, add-one) }

pub text_more : {l vs ws d e : List ℕ} {at n m : ℕ} → TextAt l at vs n d → TextAt d n ws m e → TextAt l at (vs ++ ws) m e
text_more {l} {vs} {ws} {d} {e} {at} {n} {m} p q =
    let a = p.next in
    let b = q.next in
    let f : at + length vs ≤ length l = omega (arith, p.fits) in
    let s : length d ≡ length l = rw p.is (splice-length l at vs f) in
    record { next = rw length-append (omega arith); fits = omega (arith, q.fits); is = q.is ∙ rw p.is (splice_more l at vs f n ws (omega arith)) }

-- ---- a number
pub small-length : {x : ℕ} → x < 10 → length (decimal x) ≡ 1
small-length {x} h = rw (decimal-small x h)

pub large_length : {x : ℕ} → 10 ≤ x → length (decimal x) ≡ length (decimal (x / 10)) + 1
large_length {x} h = rw (decimal_large x h, length-append)

pub text_small : (l : List ℕ) (at x : ℕ) → x < 10 → at < length l → TextAt l at (decimal x) (at + 1) (set l at (48 + x))
text_small l at x h g = rw (decimal-small x h) (text_byte l at (48 + x) g)

pub text_large : (l d : List ℕ) (at x n : ℕ) → 10 ≤ x → TextAt l at (decimal (x / 10)) n d → n < length d → TextAt l at (decimal x) (n + 1) (set d n (48 + x % 10))
text_large l d at x n h p g = rw (decimal_large x h) (text_more p (text_byte d n (48 + x % 10) g))
