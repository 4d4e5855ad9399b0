-- A header's test of its ranges is the test of the configuration that its fields make. Assumes nothing.
use Prim.Native.Nat.{ℕ, ◌≤◌, ◌<◌}
use mathlib.Core.Path.{◌≡◌, refl, sym, ap, ◌∙◌}
use mathlib.Core.List.{List, []}
use mathlib.Core.Bool.{Bool, true, false, ◌&&◌}
use native.Mathlib.Omega.{arith}
use lib.Dec.{eqb, leb}
use lib.ListN.{length, get_or}
use borrow.Author.Tests.{eq-eqb, le-leb, leb-true}
use Rattle.codec.specs.Num.{AreBytes}
use Rattle.codec.proofs.NumLaws.{Below, below_of, of_below}
use Rattle.codec.proofs.Has.{num_below, nums_below}
use Rattle.codec.proofs.EveryLaws.{both, every_at, every_of, every_same}
use Rattle.header.specs.Header.{row_in_range, limits_in_range, header_fits, table_at, parse_header, image_header, well_made_header}
use Rattle.header.specs.declared.Header.{Header}
use Rattle.header.proofs.Laws.{Typed, Table, table-rows, table-row, well_made_parts, parse_image, table-image, image-accepted}
use Rattle.reset.specs.Reach.{limit}
use Rattle.reset.specs.Config.{Config, size_fits, allowance_fits, allowances_fit, well_made, row_fits as row_fits_at, limits_fit as table_in_range}
use Rattle.reset.proofs.ConfigLaws.{shape}
use Rattle.rules.specs.Setup.{header_config, block_config, header_of}

-- ---- the two tests
allowances_fit_lem : (a : List ℕ) → length a ≡ 8 → Below 65536 a → allowances_fit a ≡ true
unfolding allowances_fit
allowances_fit_lem a n b =
    rw (eq-eqb _ 8 n)
    (every_of 8 (allowance_fits a) (λ (i : ℕ) (h : i < 8). let g = of_below 65536 a (omega arith) b i in le-leb (get_or a i 0) 65535 (omega arith)))

table_fits : (m : List (List ℕ)) → Table m → table_in_range m ≡ limits_in_range m
unfolding table_in_range limits_in_range row_in_range limit
table_fits m y = rw (eq-eqb _ 8 y.rows) (every_same 8 (row_fits_at m) (λ (i : ℕ). row_in_range (get_or m i [])) (λ (i : ℕ) (h : i < 8). rw (eq-eqb _ 8 (y.cells i h))))

-- for fields of a header's types, one test is the other
pub same_test : (h : Header) (m : List (List ℕ)) → Typed h → Table m → well_made (header_config h m) ≡ header_fits h m
unfolding well_made header_fits
same_test h m y z =
    let g = y.t in
    rw (le-leb h.t 65535 (omega arith), allowances_fit_lem h.allowances y.eight y.allowances, table_fits m z)
    (regroup (leb 1 h.n) (leb h.n 8) (leb 1 h.t) (limits_in_range m))
  where
    regroup : (a b c d : Bool) → (((a && b) && (c && true)) && (true && d)) ≡ (a && (b && (c && d)))
    regroup false b c d = refl
    regroup true false c d = refl
    regroup true true false d = refl
    regroup true true true d = refl

-- ---- from bytes to a configuration
pub parsed_typed : (l : List ℕ) → AreBytes l → Typed (parse_header l)
parsed_typed l b = record { n = b 1; t = num_below 2 l 2 b; eight = refl; allowances = nums_below 2 8 l 16 b }

pub parsed_table : (l : List ℕ) → Table (table_at 8 l 32)
parsed_table l = record { rows = table-rows 8 l 32; cells = table-row 8 l 32 }

-- an accepted header block makes a well_made_lem configuration
pub accepted-well_made : (l : List ℕ) → AreBytes l → well_made_header l ≡ true → well_made (block_config l) ≡ true
accepted-well_made l b h = same_test (parse_header l) (table_at 8 l 32) (parsed_typed l b) (parsed_table l) ∙ (well_made_parts l h).5

-- ---- from a configuration to bytes
module _ (c : Config) (h : well_made c ≡ true) where
  allowance_small : (i : ℕ) → i < 8 → get_or c.allowances i 0 ≤ 65535
  unfolding well_made allowances_fit
  allowance_small i g =
      let p = both (size_fits c.n c.t) _ h in
      let q = both (allowances_fit c.allowances) _ p.1 in
      let r = both (eqb (length c.allowances) 8) _ q.0 in
      leb-true _ _ (every_at 8 (allowance_fits c.allowances) i r.1 g)

  pub well_made-typed : Typed (header_of c)
  well_made-typed =
      let s = shape c h in
      let n = s.small in
      let t = s.ceiling in
      let e = s.allowances8 in
      record {
        n = omega arith;
        t = omega arith;
        eight = e;
        allowances = below_of 65536 c.allowances (λ (i : ℕ) (g : i < length c.allowances). let a = allowance_small i (omega arith) in omega arith);
      }

  pub well_made-table : Table c.limits
  well_made-table = record { rows = (shape c h).rows8; cells = (shape c h).row8 }

  -- a well_made_lem configuration's fields are in a header's ranges
  pub well_made_fits : header_fits (header_of c) c.limits ≡ true
  well_made_fits = sym (same_test (header_of c) c.limits well_made-typed well_made-table) ∙ h

  -- and the block written of them is accepted
  pub well_made-accepted : well_made_header (image_header (header_of c) c.limits) ≡ true
  well_made-accepted = image-accepted (header_of c) c.limits well_made-typed well_made-table well_made_fits

  -- and makes the same configuration
  pub block_back : block_config (image_header (header_of c) c.limits) ≡ c
  block_back =
      let l : List ℕ = image_header (header_of c) c.limits in
      ap (λ (x : Header). header_config x (table_at 8 l 32)) (parse_image (header_of c) c.limits well_made-typed)
      ∙ ap (λ (m : List (List ℕ)). header_config (header_of c) m) (table-image (header_of c) c.limits well_made-table)
