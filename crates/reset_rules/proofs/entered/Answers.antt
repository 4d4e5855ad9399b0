use native.Mathlib.Numerals.{add-one}
use Rattle.reset_rules.proofs.entered.Goals as goal

pub returns : goal.returns
returns c = rw (c.advance.ensures, add-one)
