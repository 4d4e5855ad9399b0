use Prim.Native.Nat.{ℕ, ◌+◌, ◌*◌, ◌/◌, ◌%◌, ◌≤◌, ◌<◌}
use mathlib.Core.Path.{◌≡◌, ◌∙◌, ap}
use mathlib.Core.List.{List}
use mathlib.Core.Bool.{true}
use native.Mathlib.Omega.{arith}
use lib.ListN.{get_or}
use borrow.Author.Tests.{eq-eqb, ne_eqb}
use Rattle.header.specs.Header.{table_at}
use Rattle.header.proofs.Laws.{table_at_lem}
use Rattle.reset.specs.Reach.{limit, linked}
use Rattle.reset.specs.Config.{neighbours, places, places_of, well_made}
use Rattle.reset.proofs.ConfigLaws.{shape}
use Rattle.rules.specs.Setup.{block_config}
use Rattle.area.proofs.Area.places_of.Goals as goal

-- limit k of the table
limit_at_lem : (l : List ℕ) (k : ℕ) → k < 64 → limit (table_at 8 l 32) (k / 8) (k % 8) ≡ get_or l (32 + k) 0
unfolding limit
limit_at_lem l k h =
    let e : 32 + (k / 8 * 8 + k % 8) ≡ 32 + k = omega arith in
    table_at_lem 8 l 32 (k / 8) (k % 8) (omega arith) (omega arith) ∙ ap (λ (i : ℕ). get_or l i 0) e

small : (l : List ℕ) (k : ℕ) → k < 64 → well_made (block_config l) ≡ true → get_or l (32 + k) 0 ≤ 32
small l k h w = rw (← limit_at_lem l k h) ((shape (block_config l) w).limit32 (k / 8) (k % 8) (omega arith) (omega arith))

pub returns-then-limit-eq0 : goal.returns-then-limit-eq0
unfolding places neighbours linked
returns-then-limit-eq0 c =
    let a = c.args in
    (rw (limit_at_lem a.self.head.now a.k (omega arith), eq-eqb _ 0 c.if-limit-eq0.true), omega arith)

pub returns : goal.returns
unfolding places neighbours linked
returns c =
    let l = c.args.self.head.now in
    let k = c.args.k in
    let e : c.places.result ≡ places_of (get_or l (32 + k) 0) = c.places.ensures.0 in
    (rw (limit_at_lem l k (omega arith), ne_eqb _ 0 c.if-limit-eq0.false) e, omega (arith, small l k (omega arith) c.args.self.made))
