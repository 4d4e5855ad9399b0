use Prim.Native.Nat.{ℕ}
use mathlib.Core.Path.{◌∙◌, sym}
use native.Mathlib.Omega.{arith}
use Rattle.header.specs.Header.{parse_header, table_at}
use Rattle.entries.proofs.Laws.{fields_parts}
use Rattle.block_test.proofs.SweepLaws.{sound_law, block_refused}
use Rattle.block_test.proofs.block_fits.Goals as goal

pub returns-then-not-fields_fit : goal.returns-then-not-fields_fit
returns-then-not-fields_fit c =
    let a = c.args in
    sym (block_refused _ _ a.block.now _ _ (sym c.fields_fit.ensures ∙ c.if-not-fields_fit.true))

pub sound-requires : goal.sound-requires
sound-requires c =
    let p = fields_parts c.args.block.now (sym c.fields_fit.ensures ∙ c.if-not-fields_fit.false) in
    (c.requires, omega (arith, c.count_of-count.ensures), omega (arith, c.count_of-count.ensures))

pub returns : goal.returns
returns c =
    let a = c.args in
    let l = a.allowed.now in
    let f = sym c.fields_fit.ensures ∙ c.if-not-fields_fit.false in
    let e = sound_law a.block.now c.requires (λ (i : ℕ). omega (arith, c.type_inv.block i)) (parse_header l.head.now) (table_at 8 l.head.now 32) l.fronts l.few l.stand a.number a.last f in
    rw (c.get.ensures, c.sound.ensures, c.counts_fit.ensures, c.get-2.ensures, c.count_of-count.ensures) (sym e)
