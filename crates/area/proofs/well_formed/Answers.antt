use Prim.Native.Nat.{ℕ}
use mathlib.Core.Path.{◌∙◌, sym}
use native.Mathlib.Omega.{arith}
use borrow.Author.Tests.{eq-eqb, ne_eqb}
use mathlib.Core.List.{List}
use lib.ListN.{take, length-take}
use Rattle.codec.specs.Num.{AreBytes}
use Rattle.codec.proofs.Fronts.{bytes_take}
use Rattle.rules.proofs.Laws.{accepted-well_made}
use Rattle.area.specs.Layout.{config_at, test}
use Rattle.area.proofs.well_formed.Goals as goal

pub returns-then-a-ne-SIZE : goal.returns-then-a-ne-SIZE
unfolding test config_at
returns-then-a-ne-SIZE c = rw (ne_eqb _ 65536 c.if-a-ne-SIZE.true)

pub returns-then-not-well_made : goal.returns-then-not-well_made
unfolding test config_at
returns-then-not-well_made c = rw (eq-eqb _ 65536 c.if-a-ne-SIZE.false, sym c.well_made.ensures ∙ c.if-not-well_made.true)

pub invariant_of-fit : goal.invariant_of-fit
invariant_of-fit c =
    let a : List ℕ = c.args.a.now in
    let bytes : AreBytes a = λ i. omega (arith, c.type_inv.a i) in
    record {
      block = rw length-take (omega arith);
      long = omega arith;
      made = accepted-well_made (take 512 a) (bytes_take 512 a bytes) (sym c.well_made.ensures ∙ c.if-not-well_made.false);
    }

pub returns : goal.returns
unfolding test config_at
returns c = rw (eq-eqb _ 65536 c.if-a-ne-SIZE.false, sym c.well_made.ensures ∙ c.if-not-well_made.false) c.fit.ensures
