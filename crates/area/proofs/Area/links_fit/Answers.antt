use mathlib.Core.Path.{◌≡◌, ◌∙◌, sym}
use native.Mathlib.Omega.{arith}
use Rattle.rules.specs.Setup.{block_config}
use Rattle.link.proofs.Laws.{places_most}
use Rattle.area.proofs.Runs.{read_none, idle_turn, busy_turn, stop_turn, runs_end}
use Rattle.area.proofs.Area.links_fit.Goals as goal
use Rattle.area.proofs.Area.links_fit.Goals.{then-b-ne0+else-not-link_fits, else-b-ne0}

pub link_fits-requires : goal.link_fits-requires
link_fits-requires c =
    let l = c.loop-k in
    (omega arith, l.invariant.1.0)

pub returns-then-not-link_fits : goal.returns-then-not-link_fits
returns-then-not-link_fits c =
    let g = c.args in
    let w = rw c.get-t.ensures at (sym c.link_fits.ensures ∙ c.if-not-link_fits.true) in
    sym (stop_turn (block_config g.self.head.now) g.self.area.now (omega arith) c.loop-k.k c.loop-k.from (omega arith) c.loop-k.invariant.1 w)

pub loop-k-preserved : goal.loop-k-preserved
loop-k-preserved c =
    let d = block_config c.args.self.head.now in
    let a = c.args.self.area.now in (
      omega arith,
      elim c.if-b-ne0.branch [
        | then-b-ne0+else-not-link_fits w ↦
            rw (w.from-is, w.from.ensures)
            (busy_turn d a (omega arith) c.loop-k.k c.loop-k.from (omega arith) c.loop-k.invariant.1 (places_most d c.args.self.made _ _)
            (rw c.get-t.ensures at (sym w.link_fits.ensures ∙ w.if-not-link_fits.false)))
        | else-b-ne0 w ↦ rw w.from-is (idle_turn d a (omega arith) c.loop-k.k c.loop-k.from (omega arith) c.loop-k.invariant.1 w.if-b-ne0.false)
      ],
    )

pub blank_between-requires : goal.blank_between-requires
blank_between-requires c = (let h = c.loop-k.invariant.1.0 in omega arith, omega arith)

pub returns : goal.returns
returns c =
    let g = c.args in
    let e : c.loop-k.k ≡ 64 = omega arith in
    c.blank_between.ensures ∙ sym (runs_end (block_config g.self.head.now) g.self.area.now (omega arith) c.loop-k.from (rw e at c.loop-k.invariant.1))

pub loop-k-init : goal.loop-k-init
loop-k-init c = (omega arith, read_none _ _)
