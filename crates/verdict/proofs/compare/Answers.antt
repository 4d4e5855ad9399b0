use Prim.Native.Nat.{ℕ}
use mathlib.Core.List.{List}
use mathlib.Core.Bool.{Bool, true, false, not, cond, ◌&&◌, ◌||◌, and-false}
use lib.Dec.{eqb}
use lib.ListN.{length}
use Rattle.clock.specs.Order.{verdict_of}
use Rattle.record.specs.Record.{parse_record, well_made_record}
use Rattle.record.specs.declared.Record.{Record}
use Rattle.std.specs.Prelude.{Ok, Err}
use Rattle.refusals.specs.declared.Refusal.TheVariants.{DifferentPhases}
use mathlib.Core.Path.{◌≡◌, refl, ◌∙◌, sym}
use native.Mathlib.Omega.{arith}
use borrow.Author.Tests.{not-true, eq-eqb, ne_eqb}
use Rattle.record.proofs.Laws.{well_made_parts}
use Rattle.verdict.specs.Compare.{verdict_on, verdict_of_bytes}
use Rattle.verdict.proofs.compare.Goals as goal

-- the verdict by the records that were read
decided : (a b : List ℕ) (x y : Record) → x ≡ parse_record a → y ≡ parse_record b → verdict_of_bytes a b ≡ cond (eqb x.phase y.phase) (Ok (verdict_of x.counts y.counts)) (Err DifferentPhases)
unfolding verdict_of_bytes
decided a b x y e f = rw (e, f)

-- bytes of another length are no record
other_length : (a b : List ℕ) → (not (eqb (length a) 32) || not (eqb (length b) 32)) ≡ true → (well_made_record a && well_made_record b) ≡ false
unfolding well_made_record
other_length a b h = go (eqb (length a) 32) refl
  where
    go : (x : Bool) → eqb (length a) 32 ≡ x → (well_made_record a && well_made_record b) ≡ false
    go false e = rw e
    go true e = let f : eqb (length b) 32 ≡ false = not-true (eqb (length b) 32) (rw e at h) in rw (f, and-false)

pub returns-then-first-second : goal.returns-then-first-second
unfolding verdict_on
returns-then-first-second c = let a = c.args in rw (other_length a.first.now a.second.now c.if-first-second.true)

pub returns-then-not-well_made : goal.returns-then-not-well_made
unfolding verdict_on
returns-then-not-well_made c = rw (sym c.well_made.ensures ∙ c.if-not-well_made.true)

pub returns-then-not-well_made-2 : goal.returns-then-not-well_made-2
unfolding verdict_on
returns-then-not-well_made-2 c = rw ((sym c.well_made.ensures ∙ c.if-not-well_made.false), (sym c.well_made-2.ensures ∙ c.if-not-well_made-2.true))

pub load-a-requires : goal.load-a-requires
load-a-requires c = let n = (well_made_parts c.args.first.now (sym c.well_made.ensures ∙ c.if-not-well_made.false)).0 in omega arith

pub load-b-requires : goal.load-b-requires
load-b-requires c = let n = (well_made_parts c.args.second.now (sym c.well_made-2.ensures ∙ c.if-not-well_made-2.false)).0 in omega arith

pub returns-then-a-b : goal.returns-then-a-b
unfolding verdict_on
returns-then-a-b c = rw ((sym c.well_made.ensures ∙ c.if-not-well_made.false), (sym c.well_made-2.ensures ∙ c.if-not-well_made-2.false), decided _ _ _ _ c.load-a.ensures c.load-b.ensures, ne_eqb _ _ c.if-a-b.true)

pub returns : goal.returns
unfolding verdict_on
returns c = rw ((sym c.well_made.ensures ∙ c.if-not-well_made.false), (sym c.well_made-2.ensures ∙ c.if-not-well_made-2.false), decided _ _ _ _ c.load-a.ensures c.load-b.ensures, eq-eqb _ _ c.if-a-b.false) (cc)
