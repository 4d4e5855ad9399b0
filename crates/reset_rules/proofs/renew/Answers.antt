use native.Mathlib.Numerals.{add-one}
use Rattle.reset.specs.State.{none_seen}
use Rattle.clock.specs.Timestamp.{zeros}
use Rattle.reset_rules.proofs.renew.Goals as goal

pub returns : goal.returns
unfolding none_seen zeros
returns c = rw add-one
