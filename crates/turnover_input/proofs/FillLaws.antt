-- A line filled byte by byte. Assumes nothing.
use Prim.Native.Nat.{ℕ, ◌+◌, ◌≤◌, ◌<◌}
use mathlib.Core.Path.{◌≡◌, refl, ◌∙◌}
use mathlib.Core.List.{List, [], ◌∷◌, ◌++◌, append_assoc, append-nil}
use native.Mathlib.Omega.{arith}
use lib.ListN.{length, drop, get_or, drop_of_length-le, length-drop}
use borrow.Author.Tests.{eq-eqb, ne_eqb}
use Rattle.std.proofs.Common.{None, Some}
use Rattle.std.specs.Borrow.{Bor}
use Rattle.turnover_input.proofs.FieldLaws.{here}
use Rattle.turnover_input.specs.Lines.{ends, before, behind}
use Rattle.turnover_input.specs.Kept.{Holds, Fills}
use Rattle.turnover_input.specs.declared.line.Line.{Line}

-- the bytes up to i are kept, and none of them is a line feed
pub record Filling (old : Line) (bytes : List ℕ) (new : Line) (i : ℕ) : Type 0 where
  pub whole : ends (drop i bytes) ≡ ends bytes
  pub rest : behind (drop i bytes) ≡ behind bytes
  pub line : (t : List ℕ) → Holds old t → (k : List ℕ) × Holds new k × (k ++ before (drop i bytes) ≡ t ++ before bytes)

pub filling_none : (l : Line) (bytes : List ℕ) → Filling l bytes l 0
filling_none l bytes = record { whole = refl; rest = refl; line = λ t k. (t, k, refl) }

module _ {old : Line} {bytes : List ℕ} {new : Line} {i : ℕ} (f : Filling old bytes new i) where
  -- a byte that is no line feed
  pub filling_more : (next : Line) → i < length bytes → (get_or bytes i 0 ≡ 10 → ⊥)
      → ((t : List ℕ) → Holds new t → Holds next (t ++ (get_or bytes i 0 ∷ []))) → Filling old bytes next (i + 1)
  unfolding ends behind before
  filling_more next h d w =
      let e = here bytes i h in
      let q = ne_eqb (get_or bytes i 0) 10 d in
      record {
        whole = rw (e, q) at f.whole;
        rest = rw (e, q) at f.rest;
        line = λ t k. let p = f.line t k in (p.0 ++ (get_or bytes i 0 ∷ []), w p.0 p.1, rw append_assoc (rw (e, q) at p.2));
      }

  -- a line feed
  pub filled_whole : (r : Bor (List ℕ)) → i < length bytes → get_or bytes i 0 ≡ 10 → r.now ≡ drop (i + 1) bytes → Fills old bytes (Some r) new
  unfolding ends behind before
  filled_whole r h d p =
      let e = here bytes i h in
      let g = eq-eqb (get_or bytes i 0) 10 d in
      record {
        inside = rw (p, length-drop) (omega arith);
        on = λ z. rw (p, length-drop) (omega arith);
        whole = rw (e, g) at f.whole;
        rest = p ∙ (rw (e, g) at f.rest);
        line = λ t k. let s = f.line t k in rw (← s.2, e, g, append-nil) s.1;
      }

  -- the end of the bytes
  pub filled_part : length bytes ≤ i → Fills old bytes None new
  unfolding ends behind before
  filled_part h =
      let e = drop_of_length-le bytes {i = i} h in
      record {
        inside = omega arith;
        on = λ z. z;
        whole = rw e at f.whole;
        rest = rw e at f.rest;
        line = λ t k. let s = f.line t k in rw (← s.2, e, append-nil) s.1;
      }
