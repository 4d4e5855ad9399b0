use mathlib.Core.Path.{ap, ◌∙◌}
use Rattle.std.specs.Prelude.{Result}
use Rattle.refusals.specs.declared.Refusal.{Refusal}
use Rattle.clock.specs.declared.Verdict.{Verdict}
use Rattle.host_numbers.specs.Numbers.{verdict_number}
use Rattle.melontime.proofs.melontime_verdict.Goals as goal

pub returns : goal.returns
returns c = c.verdict_number.ensures ∙ ap (λ (x : Result Verdict Refusal). verdict_number x) c.compare.ensures
