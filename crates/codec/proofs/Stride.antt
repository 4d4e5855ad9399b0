-- The stride law: record i of a row lies at base + i * size, and a splice there replaces it. Assumes nothing.
use Prim.Native.Nat.{ℕ, zero, suc, ◌+◌, ◌*◌, ◌≤◌, ◌<◌}
use mathlib.Core.Path.{◌≡◌, refl, ◌∙◌, sym}
use mathlib.Core.List.{List, [], ◌∷◌, ◌++◌, append_assoc, append-nil}
use native.Mathlib.Omega.{arith}
use mathlib.Core.Logic.{◌≢◌, ⊎_elim}
use native.Mathlib.Decide.{ℕ_discrete}
use native.Mathlib.Numerals.{add-one}
use native.Mathlib.Nat.{zero-mul, suc-mul, add-zero, eq-or-lt_of_le}
use lib.ListN.{length, take, drop, set, get_or, length-append, length-take, length-drop, length-set, get_or-append}
use lib.Seq.{take_at, drop_at, take-add, drop-drop, get_or_at, ext_get_or, set_split, get_or-set_same, get_or-set_other}
use Rattle.codec.specs.Splice.{splice}
use Rattle.codec.specs.Rows.{rows, upto}
use Rattle.codec.specs.Num.{AreBytes}
use Rattle.codec.proofs.SpliceLaws.{drop_past, splice-length, splice_more}
use Rattle.codec.proofs.Fronts.{bytes_take, bytes_drop}

module _ {A : Type 0} (f : A → List ℕ) (w : ℕ) (sized : (a : A) → length (f a) ≡ w) where
  pub rows-length : (xs : List A) → length (rows f xs) ≡ length xs * w
  rows-length [] = sym (zero-mul w)
  rows-length (x ∷ xs) = rw (length-append, sized, rows-length xs, suc-mul) (omega arith)

  -- what stands at record i
  pub row_at : (p q : List ℕ) (xs : List A) (i : ℕ) (d : A) (b : ℕ) → length p ≡ b → i < length xs
      → take w (drop (b + i * w) (p ++ (rows f xs ++ q))) ≡ f (get_or xs i d)
  row_at p q [] i d b e h = absurd (omega arith)
  row_at p q (x ∷ xs) zero d b e h =
      rw (zero-mul, add-zero, drop_at p _ b e, append_assoc) (take_at (f x) (rows f xs ++ q) w (sized x))
  row_at p q (x ∷ xs) (suc i) d b e h =
      let s : length (f x) ≡ w = sized x in
      let g : length (p ++ f x) ≡ b + w = simp length-append (omega arith) in
      let m : b + suc i * w ≡ b + w + i * w = rw suc-mul (omega arith) in
      rw (m, append_assoc (f x), ← append_assoc p) (row_at (p ++ f x) q xs i d (b + w) g (omega arith))

  -- record i replaced
  pub row-set : (p q : List ℕ) (xs : List A) (i : ℕ) (y : A) (b : ℕ) → length p ≡ b → i < length xs
      → splice (p ++ (rows f xs ++ q)) (b + i * w) (f y) ≡ p ++ (rows f (set xs i y) ++ q)
  row-set p q [] i y b e h = absurd (omega arith)
  row-set p q (x ∷ xs) zero y b e h =
      rw (zero-mul, add-zero, take_at p _ b e, drop_past p _ b (length (f y)) e, append_assoc, sized y, drop_at (f x) _ w (sized x), append_assoc)
  row-set p q (x ∷ xs) (suc i) y b e h =
      let s : length (f x) ≡ w = sized x in
      let g : length (p ++ f x) ≡ b + w = simp length-append (omega arith) in
      let m : b + suc i * w ≡ b + w + i * w = rw suc-mul (omega arith) in
      rw (m, append_assoc (f x) (rows f xs), ← append_assoc p, row-set (p ++ f x) q xs i y (b + w) g (omega arith), append_assoc p, append_assoc (f x))

  pub rows_append : (xs ys : List A) → rows f (xs ++ ys) ≡ rows f xs ++ rows f ys
  rows_append [] ys = refl
  rows_append (x ∷ xs) ys = rw (rows_append xs ys, append_assoc)

  -- records that are parsed and written again
  pub rows_parsed : (parse : List ℕ → A) → ((l : List ℕ) → AreBytes l → length l ≡ w → f (parse l) ≡ l) → (n b : ℕ) (a : List ℕ) → AreBytes a → b + n * w ≤ length a
      → rows f (upto n (λ (i : ℕ). parse (take w (drop (b + i * w) a)))) ≡ take (n * w) (drop b a)
  unfolding upto
  rows_parsed parse law zero b a y h = rw zero-mul
  rows_parsed parse law (suc n) b a y h =
      let g : b + (n * w + w) ≤ length a = rw suc-mul at h in
      let m : length (take w (drop (b + n * w) a)) ≡ w = simp (length-take, length-drop) (omega arith) in
      rw (
        rows_append,
        rows_parsed parse law n b a y (omega arith),
        append-nil,
        law (take w (drop (b + n * w) a)) (bytes_take w (drop (b + n * w) a) (bytes_drop (b + n * w) a y)) m,
        suc-mul,
        take-add,
        drop-drop,
      )

  -- the same, part by part
  pub rows_made : (g : ℕ → A) (n b : ℕ) (a : List ℕ) → ((i : ℕ) → i < n → f (g i) ≡ take w (drop (b + i * w) a)) → b + n * w ≤ length a
      → rows f (upto n g) ≡ take (n * w) (drop b a)
  unfolding upto
  rows_made g zero b a law h = rw zero-mul
  rows_made g (suc n) b a law h =
      let k : b + (n * w + w) ≤ length a = rw suc-mul at h in
      rw (
        rows_append,
        rows_made g n b a (λ (i : ℕ) (l : i < n). law i (omega arith)) (omega arith),
        append-nil,
        law n (omega arith),
        suc-mul,
        take-add,
        drop-drop,
      )

-- ---- lists made by index
pub upto-length : {A : Type 0} (n : ℕ) (g : ℕ → A) → length (upto n g) ≡ n
unfolding upto
upto-length zero g = refl
upto-length (suc n) g = rw length-append (omega (arith, upto-length n g))

pub upto_at : {A : Type 0} (n : ℕ) (g : ℕ → A) (i : ℕ) (d : A) → i < n → get_or (upto n g) i d ≡ g i
unfolding upto
upto_at zero g i d h = absurd (omega arith)
upto_at (suc n) g i d h =
    ⊎_elim
    (λ (e : i ≡ n). rw e (get_or_at (upto n g) (g n) [] d n (upto-length n g)))
    (λ (l : i < n). get_or-append (upto n g) (g n ∷ []) d i (omega (arith, upto-length n g)) ∙ upto_at n g i d l)
    (eq-or-lt_of_le {n = i} {m = n} (omega arith))

-- a list is what is made of its elements
pub upto_is : {A : Type 0} (n : ℕ) (g : ℕ → A) (xs : List A) (d : A) → length xs ≡ n → ((i : ℕ) → i < n → g i ≡ get_or xs i d) → upto n g ≡ xs
upto_is n g xs d e h =
    ext_get_or d (upto n g) xs (upto-length n g ∙ sym e)
    (λ (i : ℕ) (l : i < length (upto n g)). let k : i < n = omega (arith, upto-length n g) in upto_at n g i d k ∙ h i k)

pub upto_none : {A : Type 0} (g : ℕ → A) → upto 0 g ≡ []
unfolding upto
upto_none g = refl

-- a turn of a loop that writes g 0, g 1, .. from `at` on
pub made_turn : (d₀ d : List ℕ) (g : ℕ → ℕ) (at k : ℕ) → at + k < length d₀ → d ≡ splice d₀ at (upto k g) → set d (at + k) (g k) ≡ splice d₀ at (upto (k + 1) g)
unfolding upto
made_turn d₀ d g at k h e =
    let n : length (upto k g) ≡ k = upto-length k g in
    let m : length (splice d₀ at (upto k g)) ≡ length d₀ = splice-length d₀ at (upto k g) (omega arith) in
    rw (e, add-one, set_split (splice d₀ at (upto k g)) (at + k) (g k) (omega arith), ← add-one (at + k))
    (splice_more d₀ at (upto k g) (omega arith) (at + k) (g k ∷ []) (omega arith))

-- lists made by functions that agree
pub upto_same : {A : Type 0} (n : ℕ) (g h : ℕ → A) → ((i : ℕ) → i < n → g i ≡ h i) → upto n g ≡ upto n h
unfolding upto
upto_same zero g h e = refl
upto_same (suc n) g h e = rw (upto_same n g h (λ (i : ℕ) (l : i < n). e i (omega arith)), e n (omega arith))

-- one element replaced
pub upto-set : {A : Type 0} (n : ℕ) (g h : ℕ → A) (i : ℕ) (v d : A) → i < n → h i ≡ v → ((k : ℕ) → k < n → k ≢ i → h k ≡ g k) → set (upto n g) i v ≡ upto n h
upto-set n g h i v d l e f =
    let m : length (upto n g) ≡ n = upto-length n g in
    sym (upto_is n h (set (upto n g) i v) d (length-set (upto n g) i v ∙ m) (λ (k : ℕ) (b : k < n). at k b m (ℕ_discrete k i)))
  where
    at : (k : ℕ) → k < n → length (upto n g) ≡ n → Dec (k ≡ i) → h k ≡ get_or (set (upto n g) i v) k d
    at k b m (yes p) = rw p (e ∙ sym (get_or-set_same (upto n g) i v d (omega arith)))
    at k b m (no p) = f k b p ∙ sym (get_or-set_other (upto n g) i k v d p ∙ upto_at n g k d b)
