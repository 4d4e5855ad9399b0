use mathlib.Core.Path.{◌∙◌, sym, ap₂}
use native.Mathlib.Omega.{arith}
use Rattle.refusals.specs.declared.Refusal.TheVariants.{EmptyLink, NoSuchStation}
use Rattle.step_outcomes.proofs.Outcome.{recv_no_station, recv_no_neighbour, recv-empty}
use Rattle.rules.specs.Setup.{header_config}
use Rattle.step_parts.proofs.Read.{passed, refuses, hands_on, AtLink, no_link, at_link}
use Rattle.recv_start.proofs.ReceiptLaws.{holds_none}
use Rattle.recv_start.proofs.recv.Goals as goal
use Rattle.recv_start.proofs.recv.Goals.{In_ok-i}

-- the area passed its test, and there is such a link
at : (c : goal.In_ok-i) → AtLink c.args.area.now c.in_ok-i.i c.in_ok-i.j
at c = at_link (passed _ (λ n. omega (arith, c.slice_known-1.given n)) c.requires) c.read-config.ensures.header c.read-config.ensures.limits _ _ c.in_ok-i.ensures.ok.2

pub returns-in_err-i : goal.returns-in_err-i
returns-in_err-i c =
    let k = passed _ (λ n. omega (arith, c.slice_known-1.given n)) c.requires in
    let (e, l) = c.in_err-i.ensures.err in
    hands_on k NoSuchStation c.from_residual.ensures.1 e
    (no_link k c.read-config.ensures.header c.read-config.ensures.limits _ _ l (recv_no_station _ _ k.formed _ _) (recv_no_neighbour _ _ k.formed _ _))

pub count_at-requires : goal.count_at-requires
count_at-requires c = let k = at (goal.at.count_at-requires c).In_ok-i in (k.area.long, k.j_small, k.i_small)

pub returns-then-count_at-eq0 : goal.returns-then-count_at-eq0
returns-then-count_at-eq0 c =
    let k = at (goal.at.returns-then-count_at-eq0 c).In_ok-i in
    let (e, f, l) = c.in_ok-i.ensures.ok in
    rw (← e, ← f) (refuses k.area EmptyLink (recv-empty _ _ k.area.formed _ _ k.station k.neighbour (holds_none k (sym c.count_at.ensures ∙ c.if-count_at-eq0.true))))

pub take-requires : goal.take-requires
take-requires c =
    let k = at (goal.at.take-requires c).In_ok-i in (
      record { tested = k.area.tested; station = k.station; neighbour = k.neighbour; some = omega (arith, c.count_at.ensures, c.if-count_at-eq0.false) },
      ap₂ header_config c.read-config.ensures.header c.read-config.ensures.limits,
    )

pub returns : goal.returns
returns c = let (e, f, l) = c.in_ok-i.ensures.ok in rw (← e, ← f) c.take.ensures
