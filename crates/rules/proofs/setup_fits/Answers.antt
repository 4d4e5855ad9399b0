use mathlib.Core.Path.{◌≡◌, refl}
use mathlib.Core.Bool.{Bool, true, false, ◌&&◌}
use Prim.Native.Nat.{ℕ}
use mathlib.Core.List.{List}
use Rattle.codec.specs.Every.{every}
use Rattle.reset.specs.Reach.{every_reached}
use Rattle.reset.specs.Config.{zero_diagonal, linked_both_ways, limit_below, allowance_below, nothing_above, within_ceiling, network_rules}
use Rattle.rules.specs.Setup.{config_of}
use Rattle.rules.proofs.setup_fits.Goals as goal

-- the order of the tests does not matter
regroup : (d b a l r w : Bool) → (d && b && (l && (r && (a && w)))) ≡ (d && (b && (a && l && (r && w))))
regroup false b a l r w = refl
regroup true false a l r w = refl
regroup true true true l r w = refl
regroup true true false false r w = refl
regroup true true false true false w = refl
regroup true true false true true w = refl

grouped : (n t : ℕ) (a : List ℕ) (m : List (List ℕ))
    → (zero_diagonal m && linked_both_ways m && (every 8 (λ (i : ℕ). every 8 (limit_below n m i)) && (every_reached n m && (every 8 (allowance_below n a) && within_ceiling t a m))))
    ≡ network_rules (config_of n t a m)
unfolding network_rules nothing_above
grouped n t a m = regroup (zero_diagonal m) (linked_both_ways m) (every 8 (allowance_below n a)) (every 8 (λ (i : ℕ). every 8 (limit_below n m i))) (every_reached n m) (within_ceiling t a m)

pub returns : goal.returns
returns c =
    rw (c.allowances_fit.ensures, c.every_reached.ensures, c.links_below.ensures, c.linked_both_ways.ensures, c.new-links.ensures)
    (grouped _ _ _ _)
