use mathlib.Core.Path.{refl}
use Rattle.codec.specs.Every.{blank}
use Rattle.turnover_settings.proofs.area.Goals as goal

pub returns : goal.returns
unfolding blank
returns c = (refl, refl)
