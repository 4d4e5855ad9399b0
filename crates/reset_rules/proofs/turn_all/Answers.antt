use Prim.Native.Nat.{ℕ}
use mathlib.Core.Path.{◌≡◌, ap, ◌∙◌}
use mathlib.Core.List.{[]}
use lib.ListN.{get_or}
use Rattle.reset.specs.Config.{Config}
use Rattle.reset_rules.specs.Slots.{slot_once}
use Rattle.reset_rules.proofs.turn_all.Goals as goal

pub returns : goal.returns
returns c =
    λ (d : Config) (i : ℕ) (r : get_or d.limits i [] ≡ c.args.row).
    c.turn_once.ensures.0 d i r ∙ ap (slot_once d i) (c.turn_once-b.ensures.0 d i r ∙ ap (slot_once d i) (c.turn_once-a.ensures.0 d i r))
