-- The test of a station's record, field by field as the code reads its bytes. Assumes nothing.
use Prim.Native.Nat.{ℕ, zero, suc, ◌+◌, ◌*◌, ◌<◌}
use mathlib.Core.Path.{◌≡◌, refl, ◌∙◌, sym, ap}
use mathlib.Core.List.{List}
use mathlib.Core.Bool.{Bool, true, false, not, cond, ◌&&◌, ◌||◌, and-false}
use native.Mathlib.Omega.{arith}
use native.Mathlib.Nat.{add-suc}
use native.Mathlib.Numerals.{unary_clauses}
use lib.Dec.{eqb, leb, ltb}
use lib.ListN.{get_or}
use borrow.Author.Tests.{eq-eqb, ne_eqb, lt-leb}
use Rattle.codec.specs.Num.{num_at, nums_at}
use Rattle.codec.specs.Every.{every}
use Rattle.codec.proofs.NumLaws.{nums_get}
use Rattle.codec.proofs.EveryLaws.{every_same}
use Rattle.codec.proofs.FlagLaws.{every_both}
use Rattle.codec.proofs.Stride.{upto-length, upto_at}
use Rattle.clock.specs.Range.{counts_fit as fit}
use Rattle.header.specs.Header.{table_at}
use Rattle.header.proofs.Laws.{table_at_lem}
use Rattle.reset.specs.Reach.{limit, linked}
use Rattle.reset.specs.Config.{is_station, neighbours, limit_at, allowance_at}
use Rattle.reset.specs.Clock.{timestamp_fits}
use Rattle.reset.specs.Steps.{is_normal}
use Rattle.reset.specs.WellFormed.{sent_fits, marks_fit_from, marks_fit, station_fits}
use Rattle.rules.specs.Setup.{block_config}
use Rattle.station.specs.Image.{byte_at, mark_at, mode_of, parse_station}
use Rattle.station.specs.Test.{sent_within_at, mark_bound, marks_within_at, mark_fits, station_bytes_fit, station_test}

-- ---- flags
and_true : (a : Bool) → (a && true) ≡ a
and_true true = refl
and_true false = refl

every-add : (n m : ℕ) (p : ℕ → Bool) → every (n + m) p ≡ (every n p && every m (λ (j : ℕ). p (n + j)))
unfolding every
every-add n zero p = simp unary_clauses (sym (and_true (every n p)))
every-add n (suc m) p = rw (add-suc, every-add n m p) (turn (every n p) (every m (λ (j : ℕ). p (n + j))) (p (n + m)))
  where
    turn : (a b d : Bool) → (a && b && d) ≡ (a && (b && d))
    turn true b d = refl
    turn false b d = refl

-- the parts in the code's order
gather : (m k c n p o s q : Bool) → (m && k && (c && (n && (p && (o && (s && q)))))) ≡ (c && (m && n && (p && (o && (s && (k && q))))))
gather false k c n p o s q = sym (and-false c)
gather true false c n p o s q = rw (and-false s, and-false o, and-false p, and-false n, and-false c)
gather true true c n p o s q = refl

-- ---- fields
mode_is : (known : Bool) (b : ℕ) → (leb b 2 && (known || is_normal (mode_of b))) ≡ leb b (cond known 2 0)
mode_is true b = and_true (leb b 2)
mode_is false zero = refl
mode_is false (suc zero) = refl
mode_is false (suc (suc zero)) = refl
mode_is false (suc (suc (suc b))) = rw (lt-leb (suc (suc (suc b))) 2 (omega arith), lt-leb (suc (suc (suc b))) 0 (omega arith))

-- two marks, by the limit
marks-are : (m a b : ℕ) → (leb a 1 && leb b 1 && (not (eqb m 0) || (not (not (eqb a 0)) && not (not (eqb b 0))))) ≡ (leb a (mark_bound m) && leb b (mark_bound m))
marks-are (suc m) a b = rw (ne_eqb (suc m) 0 (λ (e : suc m ≡ 0). omega arith)) (and_true (leb a 1 && leb b 1))
marks-are zero zero zero = refl
marks-are zero zero (suc b) = rw (ne_eqb (suc b) 0 (λ (e : suc b ≡ 0). omega arith), lt-leb (suc b) 0 (omega arith)) (and-false (leb (suc b) 1))
marks-are zero (suc a) b = rw (ne_eqb (suc a) 0 (λ (e : suc a ≡ 0). omega arith), lt-leb (suc a) 0 (omega arith)) (and-false (leb (suc a) 1 && leb b 1))

module _ (head : List ℕ) (i : ℕ) (h : i < 8) (l : List ℕ) where
  limit_is : (j : ℕ) → j < 8 → limit (table_at 8 head 32) i j ≡ byte_at head (32 + i * 8) j
  unfolding limit
  limit_is j b = let e : 32 + (i * 8 + j) ≡ 32 + i * 8 + j = omega arith in table_at_lem 8 head 32 i j h b ∙ ap (λ (k : ℕ). get_or head k 0) e

  sent_is : sent_fits (block_config head) i (parse_station l) ≡ every 8 (sent_within_at head (32 + i * 8) l)
  unfolding sent_fits limit_at parse_station
  sent_is =
      rw (eq-eqb _ 8 (upto-length 8 (byte_at l 16)))
      (every_same 8 _ (sent_within_at head (32 + i * 8) l) (λ (j : ℕ) (b : j < 8). rw (upto_at 8 (byte_at l 16) j 0 b, limit_is j b)))

  marks_is : (every 16 (mark_fits l) && marks_fit (block_config head) i (parse_station l)) ≡ every 8 (marks_within_at head (32 + i * 8) l)
  unfolding marks_fit neighbours linked parse_station
  marks_is =
      let p : ℕ → Bool = λ (j : ℕ). leb (byte_at l 24 j) 1 in
      let q : ℕ → Bool = λ (j : ℕ). leb (byte_at l 32 j) 1 in
      let r : ℕ → Bool = marks_fit_from (block_config head) i (parse_station l) in
      let e : every 16 (mark_fits l) ≡ (every 8 p && every 8 q)
      = every-add 8 8 (mark_fits l) ∙ ap (λ (b : Bool). every 8 p && b) (every_same 8 _ q (λ (j : ℕ) (b : j < 8). ap (λ (k : ℕ). leb (get_or l k 0) 1) (omega arith))) in
      rw (e, eq-eqb _ 8 (upto-length 8 (mark_at l 24)), eq-eqb _ 8 (upto-length 8 (mark_at l 32)))
      (ap (λ (b : Bool). b && every 8 r) (sym (every_both (λ (j : ℕ). p j && q j) p q (λ (j : ℕ). refl) 8))
      ∙ sym (every_both (λ (j : ℕ). p j && q j && r j) (λ (j : ℕ). p j && q j) r (λ (j : ℕ). refl) 8)
      ∙ every_same 8 _ (marks_within_at head (32 + i * 8) l)
      (λ (j : ℕ) (b : j < 8). rw (upto_at 8 (mark_at l 24) j false b, upto_at 8 (mark_at l 32) j false b, limit_is j b) (marks-are (byte_at head (32 + i * 8) j) (byte_at l 24 j) (byte_at l 32 j))))

  -- the whole test
  pub test_is : station_test (block_config head) i l
      ≡ (fit (get_or head 1 0) (cond (ltb i (get_or head 1 0)) (num_at 2 head 2) 0) (nums_at 2 8 l 0)
      && (leb (get_or l 46 0) (cond (ltb i (get_or head 1 0)) 2 0)
      && (leb (num_at 4 l 40) (cond (ltb i (get_or head 1 0)) 999999 0)
      && (leb (num_at 2 l 44) (num_at 2 head (16 + i * 2))
      && (every 8 (sent_within_at head (32 + i * 8) l) && every 8 (marks_within_at head (32 + i * 8) l))))))
  unfolding station_test station_bytes_fit station_fits timestamp_fits fit is_station allowance_at parse_station
  test_is =
      gather (leb (get_or l 46 0) 2) (every 16 (mark_fits l)) (fit (get_or head 1 0) (cond (ltb i (get_or head 1 0)) (num_at 2 head 2) 0) (nums_at 2 8 l 0))
      (ltb i (get_or head 1 0) || is_normal (mode_of (get_or l 46 0))) (leb (num_at 4 l 40) (cond (ltb i (get_or head 1 0)) 999999 0))
      (leb (num_at 2 l 44) (get_or (nums_at 2 8 head 16) i 0)) (sent_fits (block_config head) i (parse_station l)) (marks_fit (block_config head) i (parse_station l))
      ∙ rw (mode_is (ltb i (get_or head 1 0)) (get_or l 46 0), sent_is, marks_is, nums_get 2 8 head 16 i h)
