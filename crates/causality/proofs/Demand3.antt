-- Demand 3 of document 01, proved. Assumes nothing.
use mathlib.Core.Path.{ap, ◌∙◌}
use mathlib.Core.List.{List}
use native.Mathlib.Omega.{arith}
use Rattle.reset.specs.Config.{Config}
use Rattle.reset.proofs.ConfigLaws.{Rules, rules}
use Rattle.reset.specs.Clock.{vector}
use Rattle.reset.specs.Steps.{Step}
use Rattle.reset.specs.Network.{initial, log}
use Rattle.causality.specs.Plain.{plain_initial, plain_told}
use Rattle.causality.specs.HappenedBefore.{accepted}
use Rattle.causality.specs.Sound.{takens, Sound, Demand3}
use Rattle.causality.proofs.Trace.{Trace}
use Rattle.causality.proofs.TraceOrder.{as_sent, by_timestamp}
use Rattle.causality.proofs.TracePlain.{plain_tells, plain_stands}
use Rattle.causality.proofs.History.{run-history, takens-long, fed-entries}
use Rattle.causality.proofs.Phases.{none_under_way}

module _ (c : Config) (u : Rules c) (ps : List Step) where
  -- the entries of the list are a trace
  pub run_trace : Trace (accepted (log c (initial vector c) ps)) (takens c (initial vector c) ps)
  run_trace =
      let h = run-history c u ps in
      record { follows = h.follows; small = λ y l. omega (arith, h.inside y l, u.small); phases = h.phases }

  pub sound : Sound c ps
  sound =
      record {
        received_as_sent = as_sent _ _ run_trace;
        ordered = by_timestamp _ _ run_trace;
        runs_plain = λ f. ap (plain_told plain_initial) (fed-entries f (log c (initial vector c) ps)) ∙ plain_tells _ _ run_trace (takens-long c (initial vector c) ps) f;
        empty_when_left = λ f left i j.
            rw (fed-entries f (log c (initial vector c) ps)) ((plain_stands _ _ run_trace (takens-long c (initial vector c) ps) f).queues i j ∙ none_under_way c u ps f left i j);
      }

pub demand3 : Demand3
demand3 c w r ps = sound c (rules c w r) ps
