-- The timestamp order, and the verdict on two timestamps, which says what the order says. Assumes nothing.
use Prim.Native.Nat.{ℕ, ◌≤◌, ◌<◌}
use mathlib.Core.Path.{◌≡◌, refl, ◌∙◌, sym, ap}
use mathlib.Core.Logic.{◌↔◌}
use mathlib.Core.Bool.{Bool, true, false, not, true≢false}
use mathlib.Core.List.{List, [], ◌∷◌}
use native.Mathlib.Omega.{arith}
use lib.ListN.{length, get_or}
use lib.Seq.{ext_get_or}
use Rattle.codec.specs.Every.{every}
use Rattle.codec.proofs.FlagLaws.{false_of}
use Rattle.clock.specs.Timestamp.{Less}
use Rattle.clock.specs.Order.{same_counts, no_greater, verdict_of, Related, by_flags, mirror}
use Rattle.clock.specs.declared.Verdict.{Verdict}
use Rattle.clock.specs.declared.Verdict.TheVariants.{Before, After, Same, Unordered}
use Rattle.clock.proofs.CompareLaws.{verdict_flags, no_greater_lem}

-- ---- the timestamp order
-- no count greater, both ways, is the same
pub equal_counts : (v w : List ℕ) → length v ≡ length w → ((k : ℕ) → get_or v k 0 ≤ get_or w k 0) → ((k : ℕ) → get_or w k 0 ≤ get_or v k 0) → v ≡ w
equal_counts v w e h g = ext_get_or 0 v w e (λ (k : ℕ) (l : k < length v). omega (arith, h k, g k))

pub less_irreflexive : (v : List ℕ) → Less v v → ⊥
less_irreflexive v h = h.0 refl

-- the lengths matter: 1 is less than 1 0, and that less than 1
pub less_transitive : (u v w : List ℕ) → length u ≡ length v → Less u v → Less v w → Less u w
less_transitive u v w e h g = (
  λ (q : u ≡ w). h.0 (equal_counts u v e h.1 (λ (k : ℕ). rw q (g.1 k))),
  λ (k : ℕ). omega (arith, h.1 k, g.1 k),
)

-- ---- the verdict
flip : (x y : Bool) → by_flags x y ≡ mirror (by_flags y x)
flip true true = refl
flip true false = refl
flip false true = refl
flip false false = refl

-- before and after are mirror images
pub verdict_mirror : (v w : List ℕ) → verdict_of w v ≡ mirror (verdict_of v w)
verdict_mirror v w = rw (verdict_flags v w, verdict_flags w v) (flip (not (no_greater v w)) (not (no_greater w v)))

same_least : {v w : List ℕ} → v ≡ w → (k : ℕ) → get_or v k 0 ≤ get_or w k 0
same_least e k = omega (arith, ap (λ (l : List ℕ). get_or l k 0) e)

-- two timestamps of the same length, at most eight
module _ (v w : List ℕ) (even : length v ≡ length w) (short : length w ≤ 8) where
  le : (no_greater v w ≡ true) ↔ ((k : ℕ) → get_or v k 0 ≤ get_or w k 0)
  le = no_greater_lem v w (omega arith)

  ge : (no_greater w v ≡ true) ↔ ((k : ℕ) → get_or w k 0 ≤ get_or v k 0)
  ge = no_greater_lem w v short

  -- the verdict says what holds
  pub verdict_holds : Related (verdict_of v w) v w
  verdict_holds = rw verdict_flags (go (no_greater w v) refl (no_greater v w) refl)
    where
      go : (p : Bool) → no_greater w v ≡ p → (q : Bool) → no_greater v w ≡ q → Related (by_flags (not p) (not q)) v w
      go true e true f = equal_counts v w even (le.0 f) (ge.0 e)
      go true e false f = (λ (q : w ≡ v). true≢false (sym (le.1 (same_least (sym q))) ∙ f), ge.0 e)
      go false e true f = (λ (q : v ≡ w). true≢false (sym (ge.1 (same_least (sym q))) ∙ e), le.0 f)
      go false e false f = (
        λ (h : Less v w). true≢false (sym (le.1 h.1) ∙ f),
        λ (h : Less w v). true≢false (sym (ge.1 h.1) ∙ e),
        λ (q : v ≡ w). true≢false (sym (le.1 (same_least q)) ∙ f),
      )

  -- what holds is the verdict
  pub verdict_is : (x : Verdict) → Related x v w → verdict_of v w ≡ x
  verdict_is Before h =
      rw (verdict_flags, le.1 h.1, false_of (no_greater w v) (λ (t : no_greater w v ≡ true). h.0 (equal_counts v w even h.1 (ge.0 t))))
  verdict_is After h =
      rw (verdict_flags, ge.1 h.1, false_of (no_greater v w) (λ (t : no_greater v w ≡ true). h.0 (sym (equal_counts v w even (le.0 t) h.1))))
  verdict_is Same h = rw (verdict_flags, le.1 (same_least h), ge.1 (same_least (sym h)))
  verdict_is Unordered h =
      rw (
        verdict_flags,
        false_of (no_greater w v) (λ (t : no_greater w v ≡ true). h.1 (λ (q : w ≡ v). h.2 (sym q), ge.0 t)),
        false_of (no_greater v w) (λ (t : no_greater v w ≡ true). h.0 (h.2, le.0 t)),
      )

  -- a verdict is given exactly where what it says holds
  pub verdict_exact : (x : Verdict) → (verdict_of v w ≡ x) ↔ Related x v w
  verdict_exact x = (λ (e : verdict_of v w ≡ x). rw e at verdict_holds, verdict_is x)

  pub verdict_unordered : (verdict_of v w ≡ Unordered) ↔ ((Less v w → ⊥) × (Less w v → ⊥) × (v ≡ w → ⊥))
  verdict_unordered = verdict_exact Unordered

  -- no two verdicts hold
  pub one_verdict : (x y : Verdict) → Related x v w → Related y v w → x ≡ y
  one_verdict x y h g = sym (verdict_is x h) ∙ verdict_is y g

-- ---- document 01's marked cases
pub case_before : verdict_of (1 ∷ 0 ∷ 0 ∷ 0 ∷ 0 ∷ 0 ∷ 0 ∷ 0 ∷ []) (2 ∷ 1 ∷ 0 ∷ 0 ∷ 0 ∷ 0 ∷ 0 ∷ 0 ∷ []) ≡ Before
unfolding verdict_of same_counts no_greater every
case_before = refl

pub case_unordered : verdict_of (0 ∷ 1 ∷ 0 ∷ 0 ∷ 0 ∷ 0 ∷ 0 ∷ 0 ∷ []) (1 ∷ 0 ∷ 0 ∷ 0 ∷ 0 ∷ 0 ∷ 0 ∷ 0 ∷ []) ≡ Unordered
unfolding verdict_of same_counts no_greater every
case_unordered = refl
