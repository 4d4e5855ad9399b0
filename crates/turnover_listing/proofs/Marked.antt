-- The twelve marked cases hold of the definitions together: steps 3 to 10 by the whole listing. Assumes nothing.
use Prim.Native.Nat.{ℕ}
use mathlib.Core.Path.{◌≡◌, refl, ap, ◌∙◌}
use mathlib.Core.List.{List}
use Rattle.codec.specs.Every.{every}
use Rattle.checksum.specs.Check.{weighted, check_of}
use Rattle.clock.specs.Order.{same_counts, no_greater, verdict_of}
use Rattle.turnover_input.specs.Lines.{split_from}
use Rattle.turnover_listing.specs.Listing.{listing_output}
use Rattle.turnover_listing.specs.Marked.{line_of, output, Marked}
use Rattle.turnover_listing.proofs.Listing.{whole-listing}

-- the listing's output is what turnover prints, so that its lines are those of it
of_listing : (k : ℕ) → output k ≡ line_of listing_output k
of_listing k = ap (λ (x : List ℕ). line_of x k) whole-listing

pub marked : Marked
unfolding split_from verdict_of same_counts no_greater every check_of weighted
marked =
    record {
      step_3 = of_listing 3 ∙ refl;
      step_4 = of_listing 4 ∙ refl;
      step_5 = of_listing 5 ∙ refl;
      step_6 = of_listing 6 ∙ refl;
      step_7 = of_listing 7 ∙ refl;
      step_8 = of_listing 8 ∙ refl;
      step_9 = of_listing 9 ∙ refl;
      step_10 = of_listing 10 ∙ refl;
      before = refl;
      unordered = refl;
      check_zeros = refl;
      check_last = refl;
    }
