-- What `allow` and `link` set, read off the allowances and the table of limits: one allowance; the limits from i to j and from j to i; all else is as it
-- was. Assumes nothing.
use Prim.Native.Nat.{ℕ, ◌+◌, ◌*◌, ◌<◌}
use mathlib.Core.Path.{◌≡◌, refl, sym, ap, ◌∙◌}
use mathlib.Core.List.{List, [], ◌∷◌}
use mathlib.Core.Bool.{Bool, true, false, cond, ◌&&◌, ◌||◌}
use native.Mathlib.Omega.{arith}
use native.Mathlib.Numerals.{add-one}
use native.Mathlib.Decide.{ℕ_discrete}
use lib.Dec.{eqb}
use lib.ListN.{length, get_or, set}
use lib.Seq.{set_split, get_or-set_same, get_or-set_other}
use borrow.Author.Tests.{eq-eqb, ne_eqb, lt-ltb}
use Rattle.codec.proofs.SpliceLaws.{splice-length}
use Rattle.header.proofs.Laws.{table_at_lem}
use Rattle.refusals.specs.Numbers.{number_of}
use Rattle.refusals.specs.declared.Refusal.{Refusal}
use Rattle.refusals.specs.declared.Refusal.TheVariants.{Malformed, IllFormedState, NetworkRule, NoSuchStation, ModeForbids, UsedUp, EmptyLink, NoMorePhases, DifferentPhases, BufferLength, NoSuchRecord, IllKept, SheetTooLong}
use Rattle.turnover_settings.specs.Settings.{allowance_set, limit_set, link_set, limit_in}

-- allow i x: the allowance of i is x, the others are as they were
pub allow_sets : (v : List ℕ) → length v ≡ 8 → (i x : ℕ) → i < 8 → (k : ℕ) → get_or (allowance_set v i x) k 0 ≡ cond (eqb k i) x (get_or v k 0)
allow_sets v n i x h k = rw (lt-ltb i 8 h) (go (ℕ_discrete k i))
  where
    go : Dec (k ≡ i) → get_or (set v i x) k 0 ≡ cond (eqb k i) x (get_or v k 0)
    go (yes e) = rw (eq-eqb k i e, e) (get_or-set_same v i x 0 (omega arith))
    go (no e) = rw (ne_eqb k i e) (get_or-set_other v i k x 0 e)

module _ (block : List ℕ) (sized : length block ≡ 512) (i j l : ℕ) (low : i < 8) (below : j < 8) where
  is_set : limit_set block i j l ≡ set block (32 + 8 * i + j) l
  unfolding limit_set
  is_set = rw (lt-ltb i 8 low, lt-ltb j 8 below, set_split block (32 + 8 * i + j) l (omega arith), add-one)

  set-length : length (limit_set block i j l) ≡ 512
  unfolding limit_set
  set-length = rw (lt-ltb i 8 low, lt-ltb j 8 below) (splice-length block (32 + 8 * i + j) (l ∷ []) (omega arith) ∙ sized)

  -- one limit
  limit_sets : (a b : ℕ) → a < 8 → b < 8 → limit_in (limit_set block i j l) a b ≡ cond (eqb a i && eqb b j) l (limit_in block a b)
  limit_sets a b h g =
      rw is_set (table_at_lem 8 (set block (32 + 8 * i + j) l) 32 a b h g ∙ go (ℕ_discrete a i) (ℕ_discrete b j)
      ∙ ap (λ (x : ℕ). cond (eqb a i && eqb b j) l x) (sym (table_at_lem 8 block 32 a b h g)))
    where
      else : (32 + (a * 8 + b) ≡ 32 + 8 * i + j → ⊥) → get_or (set block (32 + 8 * i + j) l) (32 + (a * 8 + b)) 0 ≡ get_or block (32 + (a * 8 + b)) 0
      else e = get_or-set_other block (32 + 8 * i + j) (32 + (a * 8 + b)) l 0 e

      go : Dec (a ≡ i) → Dec (b ≡ j) → get_or (set block (32 + 8 * i + j) l) (32 + (a * 8 + b)) 0 ≡ cond (eqb a i && eqb b j) l (get_or block (32 + (a * 8 + b)) 0)
      go (yes e) (yes f) =
          let p : 32 + (a * 8 + b) ≡ 32 + 8 * i + j = omega arith in
          rw (eq-eqb a i e, eq-eqb b j f, p) (get_or-set_same block (32 + 8 * i + j) l 0 (omega arith))
      go (yes e) (no f) = rw (eq-eqb a i e, ne_eqb b j f) (else (omega arith))
      go (no e) f = rw (ne_eqb a i e) (else (omega arith))

-- link i j l: the limits from i to j and from j to i are l, the others are as they were
pub link_sets : (block : List ℕ) → length block ≡ 512 → (i j l : ℕ) → i < 8 → j < 8 → (a b : ℕ) → a < 8 → b < 8
    → limit_in (link_set block i j l) a b ≡ cond (eqb a j && eqb b i || eqb a i && eqb b j) l (limit_in block a b)
link_sets block n i j l h g a b p q =
    limit_sets (limit_set block i j l) (set-length block n i j l h g) j i l g h a b p q
    ∙ ap (λ (x : ℕ). cond (eqb a j && eqb b i) l x) (limit_sets block n i j l h g a b p q) ∙ go (eqb a j && eqb b i) (eqb a i && eqb b j)
  where
    go : (s t : Bool) → cond s l (cond t l (limit_in block a b)) ≡ cond (s || t) l (limit_in block a b)
    go true t = refl
    go false t = refl

-- no refusal has number 0
pub number-not_zero : (r : Refusal) → number_of r ≡ 0 → ⊥
number-not_zero Malformed e = absurd (omega arith)
number-not_zero IllFormedState e = absurd (omega arith)
number-not_zero NetworkRule e = absurd (omega arith)
number-not_zero NoSuchStation e = absurd (omega arith)
number-not_zero ModeForbids e = absurd (omega arith)
number-not_zero UsedUp e = absurd (omega arith)
number-not_zero EmptyLink e = absurd (omega arith)
number-not_zero NoMorePhases e = absurd (omega arith)
number-not_zero DifferentPhases e = absurd (omega arith)
number-not_zero BufferLength e = absurd (omega arith)
number-not_zero NoSuchRecord e = absurd (omega arith)
number-not_zero IllKept e = absurd (omega arith)
number-not_zero SheetTooLong e = absurd (omega arith)
