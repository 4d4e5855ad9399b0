-- Which ceilings have room for the one link of two stations. Assumes nothing.
use Prim.Native.Nat.{ℕ, zero, suc, ◌+◌, ◌≤◌, ◌<◌}
use native.Mathlib.Omega.{arith}
use mathlib.Core.Path.{◌≡◌, refl}
use mathlib.Core.List.{List, [], ◌∷◌, ◌++◌, append-nil}
use mathlib.Core.Bool.{Bool, true, false, not, cond}
use lib.Dec.{ltb, leb-zero}
use lib.ListN.{length, replicate}
use borrow.Author.Tests.{le-leb, lt-leb, ne_eqb, ltb-true, ltb-false, lt-ltb}
use Rattle.codec.specs.Every.{every, sum, blank}
use Rattle.codec.specs.Rows.{upto}
use Rattle.header.specs.Header.{table_at}
use Rattle.decimal.specs.Ascii.{ascii}
use Rattle.decimal.specs.Decimal.{decimal_in, decimal}
use Rattle.decimal.proofs.DecimalLaws.{decimal-small}
use Rattle.std.proofs.Common.{Some}
use Rattle.turnover_input.specs.declared.command.Command.TheVariants.{Net, Link}
use Rattle.turnover_input.specs.Parse.{parse_of}
use Rattle.turnover_input.specs.Lines.{ends}
use Rattle.turnover_input.proofs.LineLaws.{lines_joined, decimal-clean}
use Rattle.turnover_input.proofs.TextLaws.{parse_text, written-limit, unwritten-limit}
use Rattle.turnover_output.specs.Answer.{setup_text}
use Rattle.reset.specs.Reach.{limit, linked, here, further, Reached, every_reached}
use Rattle.reset.specs.Config.{Config, between, allowances_fit, limits_fit, well_made, zero_diagonal, linked_both_ways, nothing_above, within_ceiling, network_rules}
use Rattle.reset.specs.Worked.{net, link}
use Rattle.reset.proofs.ConfigLaws.{reached_exactly}
use Rattle.turnover_settings.specs.Settings.{limit_set, link_set}
use Rattle.turnover_commands.specs.Run.{standing, closed}
use Rattle.turnover_session.specs.Turnover.{turnover}
use Rattle.turnover_listing.specs.Ceilings.{one_link, Ceilings}
use Rattle.turnover_listing.proofs.SetupLaws.{setting_run, set_up_lem}

-- ---- two stations with ceiling t, and a link of limit l between them
abbrev two : ℕ → ℕ → Config
two t l = link 0 1 l (net 2 t)

module _ (l : ℕ) (some : 1 ≤ l) (few : l ≤ 32) where
  -- its limits, which are the same for every ceiling
  abbrev limits : List (List ℕ)
  limits = (two 1 l).limits

  fit : limits_fit limits ≡ true
  unfolding limits_fit every limit
  fit = rw (le-leb l 32 few)

  diagonal : zero_diagonal limits ≡ true
  unfolding zero_diagonal every limit
  diagonal = refl

  both_ways_lem : linked_both_ways limits ≡ true
  unfolding linked_both_ways every limit
  both_ways_lem = rw (ne_eqb l 0 (omega arith))

  above : nothing_above 2 (replicate 8 0) limits ≡ true
  unfolding nothing_above every limit
  above = refl

  sums : (0 + sum 8 (between limits 0) ≡ l + l) × (0 + sum 8 (between limits 1) ≡ l + l)
  unfolding sum limit
  sums = (omega arith, omega arith)

  module _ (t : ℕ) (low : 1 ≤ t) (high : t < 65536) where
    well_made_lem : well_made (two t l) ≡ true
    unfolding well_made allowances_fit every
    well_made_lem = rw (le-leb 1 t low, le-leb t 65535 (omega arith), fit)

    -- station 1 is reached over the link
    paths : Reached 2 limits
    unfolding linked limit
    paths zero h = here
    paths (suc zero) h = further {j = 0} {k = 1} here (rw (ne_eqb l 0 (omega arith)))
    paths (suc (suc i)) h = absurd (omega arith)

    reached : every_reached 2 limits ≡ true
    reached = (reached_exactly (two t l) well_made_lem).1 paths

    within : (w : Bool) → ltb t (l + l) ≡ w → within_ceiling t (replicate 8 0) limits ≡ not w
    unfolding within_ceiling every sum limit
    within true e = rw (sums.0, lt-leb (l + l) t (ltb-true t (l + l) e))
    within false e = rw (sums.0, sums.1, le-leb (l + l) t (ltb-false t (l + l) e), leb-zero t)

    rules : network_rules (two t l) ≡ not (ltb t (l + l))
    unfolding network_rules
    rules = rw (diagonal, both_ways_lem, above, reached) (within (ltb t (l + l)) refl)

    -- setup at the end of the two lines, with the limits in the block in the making
    block : List ℕ
    block = link_set (blank 512) 0 1 l

    table_is : table_at 8 block 32 ≡ limits
    unfolding block limit_set blank table_at upto
    table_is = refl

    block-long : length block ≡ 512
    unfolding block limit_set blank
    block-long = refl

    ends_so : (w : Bool) → ltb t (l + l) ≡ w → (closed (standing (setting_run (two t l)) block (blank 65536))).text ≡ cond w (ascii "no 3\n") []
    unfolding setup_text decimal decimal_in
    ends_so true e = rw (set_up_lem (two t l) block table_is block-long well_made_lem, rules, e)
    ends_so false e = rw (set_up_lem (two t l) block table_is block-long well_made_lem, rules, e)

    net-clean : ends (ascii "net 2 " ++ decimal t) ≡ false
    unfolding ends
    net-clean = decimal-clean t

    says_net : parse_of (ascii "net 2 " ++ decimal t) ≡ Some (Net 2 t)
    says_net = rw (decimal-small 2 (omega arith), append-nil) at (parse_text false (Net 2 t) (rw (lt-ltb t 65536 high)))

    room : (line : List ℕ) → ends line ≡ false → parse_of line ≡ Some (Link 0 1 l) → turnover (one_link t line) ≡ cond (ltb t (l + l)) (ascii "no 3\n") []
    unfolding turnover block
    room line clean says =
        rw (lines_joined ((ascii "net 2 " ++ decimal t) ∷ line ∷ []) (net-clean, (clean, tt)), says_net, says) (ends_so (ltb t (l + l)) refl)

-- ---- the line without a limit, and those with one
says_unwritten : parse_of (ascii "link 0 1") ≡ Some (Link 0 1 16)
says_unwritten = rw (decimal-small 0 (omega arith), decimal-small 1 (omega arith)) at (unwritten-limit 0 1 (omega arith) (omega arith))

says_written : (l : ℕ) → l ≤ 32 → parse_of (ascii "link 0 1 " ++ decimal l) ≡ Some (Link 0 1 l)
says_written l h =
    rw (decimal-small 0 (omega arith), decimal-small 1 (omega arith), append-nil) at (written-limit 0 1 l (rw (lt-ltb l 256 (omega arith))))

pub ceilings : Ceilings
unfolding ends
ceilings =
    record {
      unwritten = λ t p q. room 16 (omega arith) (omega arith) t p q (ascii "link 0 1") refl says_unwritten;
      written = λ l a b t p q. room l a b t p q (ascii "link 0 1 " ++ decimal l) (decimal-clean l) (says_written l b);
    }
