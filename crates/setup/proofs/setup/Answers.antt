use Prim.Native.Nat.{ℕ}
use mathlib.Core.Path.{◌≡◌, refl, ◌∙◌, sym, ap₂}
use native.Mathlib.Omega.{arith}
use mathlib.Core.List.{List}
use mathlib.Core.Bool.{true, false}
use lib.ListN.{length}
use Rattle.std.proofs.lemmas.Result.{err_from_is_err_and}
use borrow.Author.Tests.{eq-eqb, ne_eqb}
use Rattle.codec.specs.Num.{AreBytes}
use Rattle.header.specs.Header.{parse_header, well_made_header}
use Rattle.header.specs.declared.Header.{Header}
use Rattle.header.proofs.Laws.{well_made-length}
use Rattle.reset.specs.Config.{network_rules}
use Rattle.rules.specs.Setup.{header_config, block_config}
use Rattle.area_calls.specs.Calls.{setup_on}
use Rattle.setup.proofs.Laws.{all_written, read_parts, read_none}
use Rattle.setup.proofs.setup.Goals as goal
use Rattle.setup.proofs.setup.Goals.{In_ok-header}

pub returns-then-area-ne-SIZE : goal.returns-then-area-ne-SIZE
unfolding setup_on
returns-then-area-ne-SIZE c = rw (ne_eqb _ 65536 c.if-area-ne-SIZE.true) (refl, refl)

-- the block is read
made : (c : goal.In_ok-header) → (well_made_header c.args.block.now ≡ true) × (c.in_ok-header.header ≡ parse_header c.args.block.now)
made c = read_parts _ _ (sym c.in_ok-header.was ∙ c.read.ensures)

pub returns-in_err-header : goal.returns-in_err-header
unfolding setup_on
returns-in_err-header c =
    let p = err_from_is_err_and c.from_residual.result c.from_residual.ensures.1 in
    let (f, e) = read_none _ _ (sym c.in_err-header.was ∙ c.read.ensures) in
    rw (eq-eqb _ 65536 c.if-area-ne-SIZE.false, f, p.1, p.2, e) (refl, refl)

pub returns-then-not-setup_fits : goal.returns-then-not-setup_fits
unfolding setup_on
returns-then-not-setup_fits c =
    let (w, h) = made (goal.at.returns-then-not-setup_fits c).In_ok-header in
    let r : network_rules (block_config c.args.block.now) ≡ false = sym (c.setup_fits.ensures ∙ ap₂ (λ (h : Header) (m : List (List ℕ)). network_rules (header_config h m)) h c.load_limits-limits.ensures) ∙ c.if-not-setup_fits.true in
    rw (eq-eqb _ 65536 c.if-area-ne-SIZE.false, w, r) (refl, refl)

pub put_bytes-requires : goal.put_bytes-requires
put_bytes-requires c =
    let n : length c.args.block.now ≡ 512 = well_made-length _ (made (goal.at.put_bytes-requires c).In_ok-header).0 in
    omega arith

pub returns : goal.returns
unfolding setup_on
returns c =
    let g = c.args in
    let l = g.block.now in
    let y : AreBytes l = λ i. omega (arith, c.type_inv.block i) in
    let (w, h) = made (goal.at.returns c).In_ok-header in
    let r : network_rules (block_config l) ≡ true = sym (c.setup_fits.ensures ∙ ap₂ (λ (h : Header) (m : List (List ℕ)). network_rules (header_config h m)) h c.load_limits-limits.ensures) ∙ c.if-not-setup_fits.false in
    rw (eq-eqb _ 65536 c.if-area-ne-SIZE.false, w, r)
    (refl, all_written l g.area.now _ _ _ _ y w c.if-area-ne-SIZE.false c.load_limits-limits.ensures c.put_bytes.ensures c.put_stations.ensures c.put_zeros.ensures)

pub load_limits-limits-requires : goal.load_limits-limits-requires
load_limits-limits-requires c = well_made-length _ (made (goal.at.load_limits-limits-requires c).In_ok-header).0
