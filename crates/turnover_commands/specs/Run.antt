-- A run of turnover, command by command: what is printed, and where the run then stands (document 01, "turnover"). Assumes nothing.
use Rattle.std.specs.Prelude.{ℕ, ◌+◌, ◌≤◌, ◌≡◌, Option, None, Some, List, [], Bool, true, false, cond, eqb}
use Rattle.turnover_output.specs.TextAt.{TextAt}
use Rattle.turnover_output.specs.Answer.{entry_text, receipt_text, mode_text, refused_text, setup_text, bad_text, longest}
use Rattle.turnover_input.specs.declared.command.Command.{Command}
use Rattle.turnover_input.specs.declared.command.Command.TheVariants.{Net, Allow, Link, Enter, Send, Recv, Start}
use Rattle.reset.specs.Steps.{enter, send, recv, start, is_receipt, Answer, refused, entry, mode_after}
use Rattle.station.specs.Image.{mode_byte}
use Rattle.area_calls.specs.Calls.{AreaStep, step_on}
use Rattle.record.specs.declared.Record.{Record}
use Rattle.station.specs.View.{mode_view}
use Rattle.step_parts.specs.Answers.{Told, Refused, Entered, InMode}
use Rattle.turnover_settings.specs.declared.Run.{Run}
use Rattle.turnover_commands.specs.declared.state.State.{State}
use Rattle.turnover_settings.specs.declared.Stage.{Stage}
use Rattle.turnover_settings.specs.declared.Stage.TheVariants.{Opening, Setting, Stepping, Ended}
use Rattle.turnover_settings.specs.Settings.{named_run, staged_run, numbered_run, allowed_run, link_set, settings_block, set_up}

-- where a run stands: its stage and settings, the header block in the making, where the limits stand, and the state area
pub record Standing : Type 0 where
  pub run : Run
  pub block : List ℕ
  pub area : List ℕ

-- where a run stands after a command, and what is printed
pub record Telling : Type 0 where
  pub after : Standing
  pub text : List ℕ

abbrev pub standing : Run → List ℕ → List ℕ → Standing
standing run block area = record { run = run; block = block; area = area }

-- nothing is printed
abbrev pub silent : Standing → Telling
silent s = record { after = s; text = [] }

-- any other line: nothing is set or made
abbrev pub bad_line : Standing → Telling
bad_line s = record { after = s; text = bad_text }

-- ---- steps
-- the line of a step of station i in a network of n: an entry's phase, station and n counts, and a receipt's news; the phase, station and mode; a
-- refusal
abbrev pub step_text : ℕ → ℕ → ℕ → Answer → List ℕ
step_text number i n (refused k) = refused_text number k
step_text number i n (entry e) = cond (is_receipt e) (receipt_text number e.phase i e.counts n e.news) (entry_text number e.phase i e.counts n)
step_text number i n (mode_after j m p) = mode_text number p i (mode_byte m)

-- the greatest number that a step can have: a run that needs one more ends
abbrev pub last_number : ℕ
last_number = 18446744073709551615

-- a step of station i was made
abbrev pub step_made : Run → List ℕ → ℕ → AreaStep → Telling
step_made run block i o =
    cond (eqb run.number last_number)
    (silent (standing (staged_run run Ended) block o.area))
    (record { after = standing (numbered_run run (run.number + 1)) block o.area; text = step_text (run.number + 1) i run.n o.answer })

-- a command after setup
abbrev pub stepping : Standing → Command → Telling
stepping s (Enter i g) = step_made s.run s.block i (step_on (enter i g) s.area)
stepping s (Send i j g) = step_made s.run s.block i (step_on (send i j g) s.area)
stepping s (Recv i j) = step_made s.run s.block i (step_on (recv i j) s.area)
stepping s (Start i) = step_made s.run s.block i (step_on (start i) s.area)
stepping s (Net n t) = bad_line s
stepping s (Allow i a) = bad_line s
stepping s (Link i j l) = bad_line s

-- ---- setup
-- where a run stands after setup, in a stage
abbrev pub set_up_in : Stage → Standing → Standing
set_up_in stage s = standing (staged_run s.run stage) (settings_block s.block s.run).buffer (set_up s.block s.area s.run).buffer

-- setup, and what follows where it is accepted; a refused one is printed, and ends the run
abbrev pub with_setup : Standing → Telling → Telling
with_setup s t =
    cond (eqb (set_up s.block s.area s.run).answer 0)
    t
    (record { after = set_up_in Ended s; text = setup_text (set_up s.block s.area s.run).answer })

-- the first step sets up
abbrev pub first : Standing → Command → Telling
first s c = with_setup s (stepping (set_up_in Stepping s) c)

-- ---- commands
-- `net` comes first
abbrev pub opening : Standing → Command → Telling
opening s (Net n t) = silent (standing (named_run n t) s.block s.area)
opening s (Allow i a) = bad_line s
opening s (Link i j l) = bad_line s
opening s (Enter i g) = bad_line s
opening s (Send i j g) = bad_line s
opening s (Recv i j) = bad_line s
opening s (Start i) = bad_line s

-- a command between `net` and setup
abbrev pub setting : Standing → Command → Telling
setting s (Allow i a) = silent (standing (allowed_run s.run i a) s.block s.area)
setting s (Link i j l) = silent (standing s.run (link_set s.block i j l) s.area)
setting s (Net n t) = bad_line s
setting s (Enter i g) = first s (Enter i g)
setting s (Send i j g) = first s (Send i j g)
setting s (Recv i j) = first s (Recv i j)
setting s (Start i) = first s (Start i)

-- a command in each stage, and a line that says none; behind a refused setup no line is read
abbrev pub obeyed_in : Stage → Standing → Option Command → Telling
obeyed_in Opening s (Some c) = opening s c
obeyed_in Opening s None = bad_line s
obeyed_in Setting s (Some c) = setting s c
obeyed_in Setting s None = bad_line s
obeyed_in Stepping s (Some c) = stepping s c
obeyed_in Stepping s None = bad_line s
obeyed_in Ended s c = silent s

abbrev pub obeyed : Standing → Option Command → Telling
obeyed s c = obeyed_in s.run.stage s c

-- the end of input: a run that has met `net` and no step sets up now
abbrev pub closed_in : Stage → Standing → Telling
closed_in Opening s = silent s
closed_in Setting s = with_setup s (silent (set_up_in Stepping s))
closed_in Stepping s = silent s
closed_in Ended s = silent s

abbrev pub closed : Standing → Telling
closed s = closed_in s.run.stage s

-- no later line is read
abbrev pub is_ended : Stage → Bool
is_ended Opening = false
is_ended Setting = false
is_ended Stepping = false
is_ended Ended = true

-- the line of a step, by its answer as the code has it
abbrev pub code_text : ℕ → ℕ → ℕ → Record → Told → List ℕ
code_text number i n e (Refused k) = refused_text number k
code_text number i n e (Entered b) = cond (eqb e.kind 3) (receipt_text number e.phase i e.counts n b) (entry_text number e.phase i e.counts n)
code_text number i n e (InMode m p) = mode_text number p i (mode_byte (mode_view m))

-- ---- what the calls promise
-- where the code's run stands
abbrev pub standing_of : {n : ℕ} → State n → Standing
standing_of s = standing s.run s.block s.area

-- the call told t: the run then stands there, and the text was printed from `at` on, up to `end`
pub record Replies (t : Telling) (old : List ℕ) (at end : ℕ) (after : Standing) (out : List ℕ) : Type 0 where
  pub stands : after ≡ t.after
  pub text : TextAt old at t.text end out
  pub short : end ≤ at + longest
