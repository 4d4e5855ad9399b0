-- turnover on document 01's listing, from the bytes of its input to the bytes of its output. Assumes nothing.
use Prim.Native.Nat.{ℕ, ◌+◌, ◌<◌}
use native.Mathlib.Omega.{arith}
use mathlib.Core.Path.{◌≡◌, refl, ap, ◌∙◌}
use mathlib.Core.List.{List, [], ◌∷◌, ◌++◌}
use mathlib.Core.Bool.{true}
use lib.ListN.{length}
use borrow.Author.Tests.{ne_eqb}
use Rattle.codec.specs.Every.{blank}
use Rattle.codec.specs.Rows.{upto}
use Rattle.codec.specs.Written.{wrote}
use Rattle.header.specs.Header.{table_at}
use Rattle.decimal.specs.Ascii.{ascii}
use Rattle.decimal.specs.Decimal.{decimal_in, decimal, digit}
use Rattle.turnover_input.specs.Fields.{stuck, more, first, item, numbers_of}
use Rattle.std.proofs.Common.{Option, Some}
use Rattle.turnover_input.specs.declared.command.Command.{Command}
use Rattle.turnover_input.specs.declared.command.Command.TheVariants.{Enter, Send, Recv, Start}
use Rattle.turnover_input.specs.Parse.{starts_with, parse_of}
use Rattle.turnover_input.specs.Lines.{split_from, lines_of}
use Rattle.turnover_output.specs.Answer.{opening, entered, entry_text, receipt_text, mode_word, mode_text, refused_text}
use Rattle.reset.specs.Config.{Config, well_made, network_rules}
use Rattle.reset.specs.Clock.{vector}
use Rattle.reset.specs.State.{State}
use Rattle.reset.specs.Steps.{Step, enter, send, recv, start, station_of_step, step}
use Rattle.reset.specs.Network.{initial}
use Rattle.reset.specs.WellFormed.{well_formed, StepsFit}
use Rattle.reset.proofs.ClockRange.{vector-range}
use Rattle.reset.proofs.Formed.{initial-well_formed, step_well_formed}
use Rattle.reset.specs.Worked.{lines, pair, listing}
use Rattle.reset.specs.WorkedStates.{headers}
use Rattle.area.specs.Layout.{image}
use Rattle.area_calls.specs.Calls.{step_on}
use Rattle.area_calls.proofs.Demand3.{step_on-image}
use Rattle.turnover_settings.specs.declared.Run.{Run}
use Rattle.turnover_settings.specs.declared.Stage.TheVariants.{Setting, Stepping}
use Rattle.turnover_settings.specs.Settings.{limit_set, link_set, settings_block, set_up}
use Rattle.turnover_commands.specs.Run.{Standing, Telling, standing, step_text, last_number, step_made, obeyed}
use Rattle.turnover_session.specs.Turnover.{transcript, beginning, turnover}
use Rattle.turnover_listing.specs.Listing.{listing_input, listing_output}
use Rattle.turnover_listing.proofs.SetupLaws.{head_block, setting_run, made, set_up_lem}

-- ---- steps over the image of a state print as the network answers
abbrev command_of : Step → Option Command
command_of (enter i g) = Some (Enter i g)
command_of (send i j g) = Some (Send i j g)
command_of (recv i j) = Some (Recv i j)
command_of (start i) = Some (Start i)

-- lines that say these steps
abbrev Say : List (List ℕ) → List Step → Type 0
Say [] [] = Unit {0}
Say [] (p ∷ ps) = ⊥
Say (l ∷ ls) [] = ⊥
Say (l ∷ ls) (p ∷ ps) = (parse_of l ≡ command_of p) × Say ls ps

-- what is printed of them, behind step k
abbrev printed : ℕ → Config → State vector → List Step → List ℕ
printed k c s [] = []
printed k c s (p ∷ ps) = step_text (k + 1) (station_of_step p) c.n (step c s p).answer ++ printed (k + 1) c (step c s p).after ps

module _ (c : Config) (t : ℕ) (v : List ℕ) (block : List ℕ) where
  abbrev at : ℕ → List ℕ → Standing
  at k a = standing (record { stage = Stepping; n = c.n; t = t; allowances = v; number = k }) block a

  obeys : (k : ℕ) (a : List ℕ) (p : Step) → obeyed (at k a) (command_of p) ≡ step_made (at k a).run block (station_of_step p) (step_on p a)
  obeys k a (enter i g) = refl
  obeys k a (send i j g) = refl
  obeys k a (recv i j) = refl
  obeys k a (start i) = refl

  prints : (s : State vector) → well_formed c s ≡ true → (ps : List Step) → StepsFit ps → (ls : List (List ℕ)) → Say ls ps → (k : ℕ) → k + length ps < last_number
      → transcript (at k (image c s)) ls ≡ printed k c s ps
  prints s w [] f [] y k h = refl
  prints s w (p ∷ ps) f (l ∷ ls) y k h =
      rw (y.0, obeys k (image c s) p, step_on-image c s w p, ne_eqb k last_number (omega arith))
      (ap (λ (x : List ℕ). step_text (k + 1) (station_of_step p) c.n (step c s p).answer ++ x)
      (prints (step c s p).after (step_well_formed vector-range c s w p f.0) ps f.1 ls y.1 (k + 1) (omega arith)))
  prints s w [] f (l ∷ ls) y k h = absurd y
  prints s w (p ∷ ps) f [] y k h = absurd y

-- ---- the first step sets up
module _ (n t : ℕ) (v b a : List ℕ) where
  abbrev before : Standing
  before = standing (record { stage = Setting; n = n; t = t; allowances = v; number = 0 }) b a

  abbrev behind : List ℕ → List ℕ → Standing
  behind h x = standing (record { stage = Stepping; n = n; t = t; allowances = v; number = 0 }) h x

  first_line : (h x : List ℕ) → settings_block b before.run ≡ wrote h → set_up b a before.run ≡ wrote x → (p : Step)
      → obeyed before (command_of p) ≡ obeyed (behind h x) (command_of p)
  first_line h x e f (enter i g) = rw (e, f)
  first_line h x e f (send i j g) = rw (e, f)
  first_line h x e f (recv i j) = rw (e, f)
  first_line h x e f (start i) = rw (e, f)

same_line : (s s' : Standing) (l : List ℕ) (ls : List (List ℕ)) (d : Option Command) → parse_of l ≡ d → obeyed s d ≡ obeyed s' d → transcript s (l ∷ ls) ≡ transcript s' (l ∷ ls)
same_line s s' l ls d e f = rw e (ap (λ (x : Telling). x.text ++ transcript x.after ls) f)

-- ---- the settings
-- the header block in the making behind the link line
abbrev block : List ℕ
block = link_set (blank 512) 0 1 2

abbrev setting : Run
setting = setting_run pair

table_is : table_at 8 block 32 ≡ pair.limits
unfolding limit_set blank table_at upto
table_is = refl

block-long : length block ≡ 512
unfolding limit_set blank
block-long = refl

abbrev accepted : (well_made pair ≡ true) × (network_rules pair ≡ true)
accepted = headers.listing-accepted

-- ---- the whole listing
later : List (List ℕ)
later =
    ascii "send 0 1 502"
    ∷ ascii "start 1"
    ∷ ascii "recv 1 0"
    ∷ ascii "recv 0 1"
    ∷ ascii "recv 1 0"
    ∷ ascii "recv 1 0"
    ∷ ascii "send 1 0 503"
    ∷ ascii "recv 0 1"
    ∷ ascii "recv 0 1"
    ∷ ascii "recv 0 1"
    ∷ []

abbrev steps : List (List ℕ)
steps = ascii "enter 0 501" ∷ later

lines_are : lines_of listing_input ≡ ascii "net 2 7" ∷ ascii "allow 0 3" ∷ ascii "allow 1 3" ∷ ascii "link 0 1 2" ∷ steps
unfolding split_from later
lines_are = refl

says : Say steps listing
unfolding parse_of starts_with numbers_of first more digit stuck item later
says = (refl, (refl, (refl, (refl, (refl, (refl, (refl, (refl, (refl, (refl, (refl, tt)))))))))))

set_lines : (ls : List (List ℕ)) → transcript beginning (ascii "net 2 7" ∷ ascii "allow 0 3" ∷ ascii "allow 1 3" ∷ ascii "link 0 1 2" ∷ ls) ≡ transcript (standing setting block (blank 65536)) ls
unfolding parse_of starts_with numbers_of first more digit stuck item
set_lines ls = refl

fit : StepsFit listing
fit = (refl, (refl, (refl, (refl, (refl, (refl, (refl, (refl, (refl, (refl, (refl, tt)))))))))))

first_step : transcript (standing setting block (blank 65536)) steps ≡ transcript (at pair 7 pair.allowances (head_block pair) 0 (image pair (initial vector pair))) steps
first_step =
    same_line (before 2 7 pair.allowances block (blank 65536)) (behind 2 7 pair.allowances block (blank 65536) (head_block pair) (image pair (initial vector pair))) (ascii "enter 0 501") later (Some (Enter 0 501)) says.0
    (first_line 2 7 pair.allowances block (blank 65536) (head_block pair) (image pair (initial vector pair)) (made pair block table_is block-long accepted.0)
    (rw accepted.1 at (set_up_lem pair block table_is block-long accepted.0)) (enter 0 501))

computed : printed 0 pair (initial vector pair) listing ≡ listing_output
unfolding lines entered entry_text receipt_text mode_text refused_text opening mode_word decimal decimal_in
computed = refl

pub whole-listing : turnover listing_input ≡ listing_output
unfolding turnover
whole-listing =
    rw lines_are (set_lines steps ∙ first_step
    ∙ prints pair 7 pair.allowances (head_block pair) (initial vector pair) (initial-well_formed vector-range pair accepted.0 accepted.1) listing fit steps says 0 (omega arith) ∙ computed)
