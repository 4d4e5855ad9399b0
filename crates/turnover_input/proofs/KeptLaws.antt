-- The text of a command has at most 19 bytes, so the first 32 bytes of a line say what the line says. Assumes nothing.
use Prim.Native.Nat.{ℕ, ◌+◌, ◌<◌, ◌≤◌}
use mathlib.Core.Path.{◌≡◌, refl, ◌∙◌, sym, ap, subst}
use mathlib.Core.Bool.{Bool, true, false, cond, ◌&&◌}
use mathlib.Core.Logic.{◌↔◌}
use mathlib.Core.List.{List, [], ◌∷◌, ◌++◌}
use Rattle.std.proofs.Common.{Option, None, Some}
use native.Mathlib.Omega.{arith}
use native.Mathlib.Decide.{dec_le}
use native.Mathlib.Numerals.{add-one}
use lib.Dec.{eqb}
use lib.ListN.{length, take, set, length-append, length-take}
use lib.Seq.{take_all, take-suc-set, take-append-le}
use borrow.Author.Tests.{ltb-true}
use Rattle.decimal.specs.Decimal.{decimal, spaced}
use Rattle.decimal.proofs.DecimalLaws.{decimal-length}
use Rattle.turnover_input.specs.Text.{default_limit, text_of, command_fits, Means}
use Rattle.turnover_input.specs.Parse.{parse_of}
use Rattle.turnover_input.proofs.MadeLaws.{below2, below3}
use Rattle.turnover_input.proofs.TextLaws.{means_parse}
use Rattle.turnover_input.specs.declared.command.Command.{Command}
use Rattle.turnover_input.specs.declared.command.Command.TheVariants.{Net, Allow, Link, Enter, Send, Recv, Start}
use Rattle.turnover_input.specs.Kept.{HoldsLine}

-- ---- a text is short
station-short : (i : ℕ) → i < 8 → length (decimal i) ≤ 1
station-short i h = decimal-length 0 i (omega arith)

limit-short : (short : Bool) (l : ℕ) → l < 256 → length (spaced (cond short [] (l ∷ []))) ≤ 4
limit-short true l h = omega arith
limit-short false l h = let p = decimal-length 2 l (omega arith) in simp length-append (omega arith)

text_short : (brief : Bool) (c : Command) → command_fits c ≡ true → length (text_of brief c) < 20
text_short b (Net n t) e =
    let h = below2 n 256 t 65536 e in
    simp length-append (omega (arith, decimal-length 2 n (omega arith), decimal-length 4 t (omega arith)))
text_short b (Allow i a) e =
    let h = below2 i 8 a 65536 e in
    simp length-append (omega (arith, station-short i h.0, decimal-length 4 a (omega arith)))
text_short b (Link i j l) e =
    let h = below3 i 8 j 8 l 256 e in
    simp length-append (omega (arith, station-short i h.0, station-short j h.1, limit-short (b && eqb l default_limit) l h.2))
text_short b (Enter i r) e =
    let h = below2 i 8 r 4294967296 e in
    simp length-append (omega (arith, station-short i h.0, decimal-length 9 r (omega arith)))
text_short b (Send i j r) e =
    let h = below3 i 8 j 8 r 4294967296 e in
    simp length-append (omega (arith, station-short i h.0, station-short j h.1, decimal-length 9 r (omega arith)))
text_short b (Recv i j) e = let h = below2 i 8 j 8 e in simp length-append (omega (arith, station-short i h.0, station-short j h.1))
text_short b (Start i) e = simp length-append (omega (arith, station-short i (ltb-true i 8 e)))

-- ---- the first 32 bytes of a line say what the line says
pub said-whole : (t : List ℕ) (r : Option Command) → Means (take 32 t) r → Means t r
said-whole t r s = go (dec_le (length t) 32) r s
  where
    go : Dec (length t ≤ 32) → (r : Option Command) → Means (take 32 t) r → Means t r
    go (yes h) r s = subst (λ (l : List ℕ). Means l r) (take_all 32 t h) s
    go (no h) (Some c) p = absurd (omega (arith, text_short p.1.0 c p.0, ap length p.1.1, length-take 32 t))
    go (no h) None p = λ d w. omega (arith, text_short w.1.0 d w.0, ap length w.1.1)

pub kept_means : (l : List ℕ) (n : ℕ) (c : Option Command) → Means (take n l) c → (t : List ℕ) → HoldsLine l n t → (c ≡ parse_of t) × Means t c
kept_means l n c s t k = let w : Means t c = said-whole t c (rw k.bytes at s) in (means_parse t c w, w)

-- ---- one byte more, and none
pub kept_more : (l t : List ℕ) (n b : ℕ) → length l ≡ 32 → n < 32 → HoldsLine l n t → HoldsLine (set l n b) (n + 1) (t ++ (b ∷ []))
kept_more l t n b e h k =
    let q = k.count in
    let m : length t ≡ n = omega arith in
    let a : take n l ≡ t = k.bytes ∙ take_all 32 t (omega arith) in
    record {
      count = rw length-append (omega arith);
      bytes = rw (add-one, take-suc-set l n b (omega arith), a) (sym (take_all 32 (t ++ (b ∷ [])) (rw length-append (omega arith))));
    }

pub kept_full : (l t : List ℕ) (n b : ℕ) → n ≤ 32 → 32 ≤ n → HoldsLine l n t → HoldsLine l n (t ++ (b ∷ []))
kept_full l t n b g h k =
    let q = k.count in
    record {
      count = rw length-append (omega arith);
      bytes = k.bytes ∙ sym (take-append-le 32 t (b ∷ []) (omega arith));
    }

-- a new line: nothing is kept, whatever the buffer holds
pub kept_none : (l : List ℕ) → HoldsLine l 0 []
kept_none l = record { count = refl; bytes = refl }

-- nothing is kept exactly of a line of which nothing has come
pub kept_empty : (l : List ℕ) (n : ℕ) (t : List ℕ) → HoldsLine l n t → (n ≡ 0) ↔ (t ≡ [])
kept_empty l n [] k = (λ e. refl, λ e. k.count)
kept_empty l n (b ∷ t) k = let q = k.count in (λ e. absurd (omega arith), λ e. absurd (let z = ap length e in omega arith))
