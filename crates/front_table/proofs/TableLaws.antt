-- Laws of the table of first bytes. Assumes nothing.
use Prim.Native.Nat.{ℕ, ◌+◌, ◌*◌, ◌-◌, ◌/◌, ◌%◌, ◌≤◌, ◌<◌}
use mathlib.Core.Path.{◌≡◌, refl, ◌∙◌, sym}
use mathlib.Core.List.{List}
use mathlib.Core.Bool.{Bool, true, cond}
use native.Mathlib.Omega.{arith}
use native.Mathlib.Decide.{dec_lt, ℕ_discrete}
use lib.Dec.{eqb}
use lib.Bits.{bit_xor, xor_add_and, xor_self, and_le_l, and_le_r}
use lib.ListN.{length, get_or, set, replicate, length-set, get_or-replicate}
use lib.Seq.{get_or-set_same, get_or-set_other}
use borrow.Author.Tests.{eqb-true, le-leb, lt-leb, eq-eqb, ne_eqb}
use Rattle.codec.specs.Every.{every}
use Rattle.codec.proofs.EveryLaws.{bool_iff, every_at}
use Rattle.record.specs.Record.{kind_byte}
use Rattle.record.specs.declared.Kind.{Kind}
use Rattle.record.specs.declared.Kind.TheVariants.{Own, Sent, Received}
use Rattle.front_table.specs.Fronts.{may_stand, place_of, front_of, Row}

-- no bit differs in equal numbers alone
pub xor_zero : (a b : ℕ) → eqb (bit_xor a b) 0 ≡ eqb a b
xor_zero a b =
    bool_iff _ _ (λ (e : eqb (bit_xor a b) 0 ≡ true). let z : bit_xor a b ≡ 0 = eqb-true _ _ e in eq-eqb a b (omega (arith, xor_add_and a b, and_le_l a b, and_le_r a b)))
    (λ (e : eqb a b ≡ true). let q : a ≡ b = eqb-true _ _ e in rw (q, xor_self b))

-- there are three kinds
pub kind-high : (k : Kind) → kind_byte k ≤ 3
kind-high Own = omega arith
kind-high Sent = omega arith
kind-high Received = omega arith

-- ---- where the right ones are looked up
own_places : every 8 (λ (s : ℕ). eqb (place_of (16711681 + 256 * s)) (56 + s)) ≡ true
unfolding every place_of
own_places = refl

pub own_place : (s : ℕ) → s < 8 → place_of (16711681 + 256 * s) ≡ 56 + s
own_place s h = eqb-true _ _ (every_at 8 (λ (s : ℕ). eqb (place_of (16711681 + 256 * s)) (56 + s)) s own_places h)

-- a sent or received one's
abbrev right_place : ℕ → Bool
right_place i = eqb (place_of (i / 64 + (256 * (i % 8) + 65536 * (i / 8 % 8)))) i

linked_places : every 128 (λ (j : ℕ). right_place (128 + j)) ≡ true
unfolding every place_of
linked_places = refl

module _ (kind s p : ℕ) (low : 2 ≤ kind) (high : kind ≤ 3) (s-low : s < 8) (p-low : p < 8) where
  pub linked_place : place_of (kind + (256 * s + 65536 * p)) ≡ (kind * 8 + p) * 8 + s
  linked_place =
      let i : 128 + ((kind * 8 + p) * 8 + s - 128) ≡ (kind * 8 + p) * 8 + s = omega arith in
      let k : ((kind * 8 + p) * 8 + s) / 64 ≡ kind = omega arith in
      let e : ((kind * 8 + p) * 8 + s) % 8 ≡ s = omega arith in
      let a : ((kind * 8 + p) * 8 + s) / 8 ≡ kind * 8 + p = omega arith in
      let f : (kind * 8 + p) % 8 ≡ p = omega arith in
      eqb-true _ _ (rw (i, k, e, a, f) at (every_at 128 (λ (j : ℕ). right_place (128 + j)) ((kind * 8 + p) * 8 + s - 128) linked_places (omega arith)))

  -- what stands there
  pub linked_at : (n : ℕ) (m : List (List ℕ)) → front_of n m ((kind * 8 + p) * 8 + s) ≡ cond (may_stand n m kind s p) (kind + (256 * s + 65536 * p)) 458752
  unfolding front_of
  linked_at n m =
      let k : ((kind * 8 + p) * 8 + s) / 64 ≡ kind = omega arith in
      let e : ((kind * 8 + p) * 8 + s) % 8 ≡ s = omega arith in
      let a : ((kind * 8 + p) * 8 + s) / 8 ≡ kind * 8 + p = omega arith in
      let f : (kind * 8 + p) % 8 ≡ p = omega arith in
      rw (k, e, a, f, ne_eqb (kind * 8 + p) 7 (omega arith), le-leb 2 kind low)

module _ (n : ℕ) (m : List (List ℕ)) where
  pub own_at : (s : ℕ) → s < 8 → front_of n m (56 + s) ≡ 16711681 + 256 * s
  unfolding front_of
  own_at s h =
      let e : (56 + s) % 8 ≡ s = omega arith in
      rw (eq-eqb ((56 + s) / 8) 7 (omega arith), e)

-- ---- the table as it is filled
module _ (n : ℕ) (m : List (List ℕ)) where
  pub row_none : (q : ℕ) (f : List ℕ) → Row n m q 0 f f
  row_none q f = (refl, λ (i : ℕ). (λ (a : i / 8 ≡ q) (b : i % 8 < 0). absurd (omega arith), λ (d : i / 8 ≡ q → ⊥). refl))

  -- one place more
  pub row_more : (q s : ℕ) (f g : List ℕ) (x : ℕ) → s < 8 → q * 8 + s < length f → x ≡ front_of n m (q * 8 + s) → Row n m q s f g → Row n m q (s + 1) f (set g (q * 8 + s) x)
  row_more q s f g x b l e h = (
    rw length-set h.0,
    λ (i : ℕ). (λ (a : i / 8 ≡ q) (c : i % 8 < s + 1). go i a c (dec_lt (i % 8) s), λ (d : i / 8 ≡ q → ⊥). get_or-set_other g (q * 8 + s) i x 0 (λ (z : i ≡ q * 8 + s). d (omega arith)) ∙ (h.1 i).1 d),
  )
    where
      go : (i : ℕ) → i / 8 ≡ q → i % 8 < s + 1 → Dec (i % 8 < s) → get_or (set g (q * 8 + s) x) i 0 ≡ front_of n m i
      go i a c (yes d) = get_or-set_other g (q * 8 + s) i x 0 (λ (z : i ≡ q * 8 + s). omega arith) ∙ (h.1 i).0 a d
      go i a c (no d) = let z : i ≡ q * 8 + s = omega arith in rw z (get_or-set_same g (q * 8 + s) x 0 (omega (arith, h.0)) ∙ e)

  -- own records of the first p stations, and those with the first p peers
  abbrev pub Filled : ℕ → List ℕ → Type 0
  Filled p r = (length r ≡ 256) × ((i : ℕ) → i < 256 → (i / 8 ≡ 7 → i % 8 < p) → (128 ≤ i → i / 8 % 8 < p) → get_or r i 0 ≡ front_of n m i)

  pub filled_none : Filled 0 (replicate 256 458752)
  unfolding front_of
  filled_none = (refl, λ (i : ℕ) (h : i < 256) (a : i / 8 ≡ 7 → i % 8 < 0) (b : 128 ≤ i → i / 8 % 8 < 0). at i h (λ (z : i / 8 ≡ 7). let y = a z in omega arith) (λ (z : 128 ≤ i). let y = b z in omega arith))
    where
      at : (i : ℕ) → i < 256 → (i / 8 ≡ 7 → ⊥) → (128 ≤ i → ⊥) → get_or (replicate 256 458752) i 0 ≡ front_of n m i
      at i h a b = get_or-replicate 256 i 458752 0 h ∙ rw (ne_eqb (i / 8) 7 a, lt-leb 2 (i / 64) (omega arith))

  pub filled_more : (p : ℕ) (f g k : List ℕ) → p < 8 → Filled p f → Row n m (16 + p) 8 (set f (56 + p) (16711681 + 256 * p)) g → Row n m (24 + p) 8 g k → Filled (p + 1) k
  filled_more p f g k b h a c = (
    c.0 ∙ a.0 ∙ length-set f (56 + p) (16711681 + 256 * p) ∙ h.0,
    λ (i : ℕ) (l : i < 256) (u : i / 8 ≡ 7 → i % 8 < p + 1) (v : 128 ≤ i → i / 8 % 8 < p + 1). go i l u v (ℕ_discrete (i / 8) (24 + p)) (ℕ_discrete (i / 8) (16 + p)) (ℕ_discrete i (56 + p)),
  )
    where
      go : (i : ℕ) → i < 256 → (i / 8 ≡ 7 → i % 8 < p + 1) → (128 ≤ i → i / 8 % 8 < p + 1) → Dec (i / 8 ≡ 24 + p) → Dec (i / 8 ≡ 16 + p) → Dec (i ≡ 56 + p) → get_or k i 0 ≡ front_of n m i
      go i l u v (yes y) z w = (c.1 i).0 y (omega arith)
      go i l u v (no y) (yes z) w = (c.1 i).1 y ∙ (a.1 i).0 z (omega arith)
      go i l u v (no y) (no z) (yes w) = (c.1 i).1 y ∙ (a.1 i).1 z ∙ rw w (get_or-set_same f (56 + p) (16711681 + 256 * p) 0 (omega (arith, h.0)) ∙ sym (own_at n m p b))
      go i l u v (no y) (no z) (no w) =
          (c.1 i).1 y ∙ (a.1 i).1 z ∙ get_or-set_other f (56 + p) i (16711681 + 256 * p) 0 w
          ∙ h.1 i l (λ (t : i / 8 ≡ 7). let o = u t in omega arith) (λ (t : 128 ≤ i). let o = v t in omega arith)
