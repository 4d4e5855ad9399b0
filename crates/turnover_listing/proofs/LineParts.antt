-- The lines that turnover prints, and the refusals that they name. Assumes nothing.
use Prim.Native.Nat.{ℕ, zero, suc, ◌+◌, ◌%◌, ◌/◌, ◌≤◌, ◌<◌}
use native.Mathlib.Omega.{arith}
use mathlib.Core.Path.{◌≡◌, refl, ◌∙◌}
use mathlib.Core.Logic.{◌≢◌, ◌⊎◌}
use mathlib.Core.List.{List, [], ◌∷◌, ◌++◌, append_assoc}
use mathlib.Core.Bool.{false, cond}
use lib.Dec.{eqb}
use lib.ListN.{get_or, take}
use Rattle.decimal.specs.Ascii.{ascii}
use Rattle.decimal.specs.Decimal.{decimal, spaced, parted, digit}
use Rattle.decimal.proofs.DecimalLaws.{by_digits, decimal-small, decimal_large, decimal_injective, digit_of}
use Rattle.turnover_input.specs.Lines.{joined, ends, Clean}
use Rattle.turnover_input.proofs.LineLaws.{decimal-clean}
use Rattle.turnover_output.specs.Answer.{opening, entered, entry_text, receipt_text, mode_word, mode_text, refused_text, setup_text, bad_text}
use Rattle.reset.proofs.Cases.{by_test, clash}

-- ---- what stands behind the digits that a line begins with
unfoldable pub behind_digits : List ℕ → List ℕ
behind_digits [] = []
behind_digits (x ∷ l) = cond (digit x) (behind_digits l) (x ∷ l)

-- the digits of a number are passed over
abbrev Past : ℕ → Type 0
Past n = (l : List ℕ) → behind_digits (decimal n ++ l) ≡ behind_digits l

past-small : (n : ℕ) → n < 10 → Past n
unfolding behind_digits
past-small n h l = rw (decimal-small n h, digit_of n h)

past_large : (n : ℕ) → 10 ≤ n → Past (n / 10) → Past n
unfolding behind_digits
past_large n h f l = rw (decimal_large n h, append_assoc, f ((48 + n % 10) ∷ l), digit_of (n % 10) (omega arith))

pub behind-number : (k : ℕ) (l : List ℕ) → behind_digits (decimal k ++ (32 ∷ l)) ≡ 32 ∷ l
unfolding behind_digits digit
behind-number k l = by_digits Past past-small past_large k (32 ∷ l)

-- ---- a line whose first digits have v behind them names a refusal of a step from 4 to 8 alone, and one of setup as 1 or 3 alone
pub record Fine (v : List ℕ) : Type 0 where
  pub of_step : (r : ℕ) → v ≡ ascii " no " ++ decimal r → (4 ≤ r) × (r ≤ 8)
  pub of_setup : (r : ℕ) → v ≡ ascii "no " ++ decimal r → (r ≡ 1) ⊎ (r ≡ 3)

fine_none : Fine []
fine_none =
    record {
      of_step = λ r e. let z : ◌≡◌ {A = ℕ} 0 1 = cc in absurd (omega arith);
      of_setup = λ r e. let z : ◌≡◌ {A = ℕ} 0 1 = cc in absurd (omega arith);
    }

-- a word other than `no`
fine_word : (x : ℕ) (v : List ℕ) → x ≢ 110 → Fine (32 ∷ x ∷ v)
fine_word x v d =
    record {
      of_step = λ r e. let z : x ≡ 110 = cc in absurd (d z);
      of_setup = λ r e. let z : ◌≡◌ {A = ℕ} 32 110 = cc in absurd (omega arith);
    }

fine_step : (r : ℕ) → (4 ≤ r) × (r ≤ 8) → Fine (ascii " no " ++ decimal r)
fine_step r h =
    record {
      of_step = λ q e. let z : r ≡ q = decimal_injective r q (cc) in (omega arith, omega arith);
      of_setup = λ q e. let z : ◌≡◌ {A = ℕ} 32 110 = cc in absurd (omega arith);
    }

fine-setup : (r : ℕ) → (r ≡ 1) ⊎ (r ≡ 3) → Fine (ascii "no " ++ decimal r)
fine-setup r h =
    record {
      of_step = λ q e. let z : ◌≡◌ {A = ℕ} 110 32 = cc in absurd (omega arith);
      of_setup = λ q e. let z : r ≡ q = decimal_injective r q (cc) in rw z at h;
    }

fine_bad : Fine (ascii "bad")
fine_bad =
    record {
      of_step = λ q e. let z : ◌≡◌ {A = ℕ} 98 32 = cc in absurd (omega arith);
      of_setup = λ q e. let z : ◌≡◌ {A = ℕ} 98 110 = cc in absurd (omega arith);
    }

-- ---- texts without a line feed
clean-append : (a b : List ℕ) → ends a ≡ false → ends b ≡ false → ends (a ++ b) ≡ false
unfolding ends
clean-append [] b h g = g
clean-append (x ∷ a) b h g = by_test (eqb x 10) (λ e. clash (rw e at h)) (λ e. rw e (clean-append a b (rw e at h) g))

clean-spaced : (l : List ℕ) → ends (spaced l) ≡ false
unfolding ends
clean-spaced [] = refl
clean-spaced (x ∷ l) = clean-append (decimal x) (spaced l) (decimal-clean x) (clean-spaced l)

clean-mode : (mode : ℕ) → ends (mode_word mode) ≡ false
unfolding ends mode_word
clean-mode mode = by_test (eqb mode 0) (λ e. rw e) (λ e. by_test (eqb mode 1) (λ f. rw (e, f)) (λ f. rw (e, f)))

-- ---- what a command prints: nothing, or one line
pub data Says (text : List ℕ) : Type 0 where
  nothing : text ≡ [] → Says text
  line : (w : List ℕ) → text ≡ w ++ (10 ∷ []) → ends w ≡ false → Fine (behind_digits w) → Says text

-- a line that begins with a number
says_number : (k : ℕ) (v : List ℕ) → ends v ≡ false → Fine (32 ∷ v) → {text : List ℕ} → text ≡ decimal k ++ (32 ∷ v) ++ (10 ∷ []) → Says text
unfolding ends
says_number k v c f e = line (decimal k ++ (32 ∷ v)) e (clean-append (decimal k) (32 ∷ v) (decimal-clean k) c) (rw (behind-number k v) f)

-- one of an accepted step
says_opening : (k x : ℕ) (w : List ℕ) (p i : ℕ) (tail : List ℕ) → x ≢ 110 → ends (x ∷ w) ≡ false → ends tail ≡ false → {text : List ℕ}
    → text ≡ opening k (32 ∷ x ∷ w) p i ++ tail ++ (10 ∷ []) → Says text
unfolding opening
says_opening k x w p i tail d c g e =
    says_number k (x ∷ w ++ parted (p ∷ i ∷ []) ++ tail)
    (clean-append (x ∷ w ++ parted (p ∷ i ∷ [])) tail (clean-append (x ∷ w) (parted (p ∷ i ∷ [])) c (clean-append (decimal p) (spaced (i ∷ [])) (decimal-clean p) (clean-spaced (i ∷ [])))) g)
    (fine_word x (w ++ parted (p ∷ i ∷ []) ++ tail) d)
    (e ∙ simp append_assoc)

pub says_entry : (k p i : ℕ) (v : List ℕ) (n : ℕ) → Says (entry_text k p i v n)
unfolding entry_text entered ends
says_entry k p i v n = says_opening k 101 (ascii "ntry ") p i (spaced (take n v)) (λ e. omega arith) refl (clean-spaced (take n v)) refl

pub says_receipt : (k p i : ℕ) (v : List ℕ) (n b : ℕ) → Says (receipt_text k p i v n b)
unfolding receipt_text entered ends
says_receipt k p i v n b =
    says_opening k 101 (ascii "ntry ") p i (spaced (take n v) ++ spaced (b ∷ [])) (λ e. omega arith) refl
    (clean-append (spaced (take n v)) (spaced (b ∷ [])) (clean-spaced (take n v)) (clean-spaced (b ∷ []))) (simp append_assoc)

pub says_mode : (k p i m : ℕ) → Says (mode_text k p i m)
unfolding mode_text ends
says_mode k p i m = says_opening k 109 (ascii "ode ") p i (32 ∷ mode_word m) (λ e. omega arith) refl (clean-mode m) (simp append_assoc)

pub says_refused : (k r : ℕ) → (4 ≤ r) × (r ≤ 8) → Says (refused_text k r)
unfolding refused_text ends
says_refused k r h = says_number k (ascii "no " ++ decimal r) (decimal-clean r) (fine_step r h) (simp append_assoc)

pub says_setup : (r : ℕ) → (r ≡ 1) ⊎ (r ≡ 3) → Says (setup_text r)
unfolding setup_text behind_digits digit ends
says_setup r h = line (ascii "no " ++ decimal r) refl (decimal-clean r) (fine-setup r h)

pub says_bad : Says bad_text
unfolding behind_digits digit ends
says_bad = line (ascii "bad") refl refl fine_bad

-- ---- what a run prints: such lines
abbrev pub AllFine : List (List ℕ) → Type 0
AllFine [] = Unit {0}
AllFine (l ∷ ls) = Fine (behind_digits l) × AllFine ls

pub record Lines (text : List ℕ) : Type 0 where
  pub lines : List (List ℕ)
  pub joins : text ≡ joined lines
  pub clean : Clean lines
  pub fine : AllFine lines

pub no_lines : Lines []
no_lines = record { lines = []; joins = refl; clean = tt; fine = tt }

pub one_more : (a b : List ℕ) → Says a → Lines b → Lines (a ++ b)
one_more a b (nothing e) y = rw e y
one_more a b (line w e c f) y =
    record { lines = w ∷ y.lines; joins = rw (e, append_assoc, y.joins); clean = (c, y.clean); fine = (f, y.fine) }

-- any one of them, and the empty one where there is none
pub fine_at : (ls : List (List ℕ)) → AllFine ls → (m : ℕ) → Fine (behind_digits (get_or ls m []))
unfolding behind_digits
fine_at [] f m = fine_none
fine_at (l ∷ ls) f zero = f.0
fine_at (l ∷ ls) f (suc m) = fine_at ls f.1 m
