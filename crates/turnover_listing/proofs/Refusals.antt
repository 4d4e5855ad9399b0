-- Which refusals turnover prints. Assumes nothing.
use Prim.Native.Nat.{ℕ, ◌+◌, ◌≤◌, ◌<◌}
use native.Mathlib.Omega.{arith}
use mathlib.Core.Path.{◌≡◌, refl, ◌∙◌}
use mathlib.Core.Logic.{◌⊎◌, ⊎_elim}
use mathlib.Core.List.{List, [], ◌∷◌, ◌++◌, append_assoc, append-nil}
use mathlib.Core.Bool.{true}
use lib.Dec.{eqb}
use borrow.Author.Tests.{le-leb}
use Rattle.decimal.specs.Ascii.{ascii}
use Rattle.decimal.specs.Decimal.{decimal, digit}
use Rattle.decimal.proofs.DecimalLaws.{decimal-small}
use Rattle.reset.specs.Steps.{Step, enter, send, recv, start, refused}
use Rattle.reset.specs.WellFormed.{register_fits, step_fits}
use Rattle.reset.proofs.Cases.{by_test}
use Rattle.reset.proofs.NeverBeyond.{known_refusals}
use Rattle.area_calls.specs.Calls.{step_on}
use Rattle.turnover_input.specs.Text.{command_fits, Means}
use Rattle.turnover_input.specs.Parse.{parse_of}
use Rattle.turnover_input.specs.Lines.{lines_of}
use Rattle.turnover_input.specs.declared.command.Command.{Command}
use Rattle.turnover_input.specs.declared.command.Command.TheVariants.{Net, Allow, Link, Enter, Send, Recv, Start}
use Rattle.turnover_input.proofs.LineLaws.{lines_joined}
use Rattle.turnover_input.proofs.MadeLaws.{below2, below3}
use Rattle.turnover_input.proofs.TextLaws.{parse_means}
use Rattle.turnover_settings.specs.declared.Stage.{Stage}
use Rattle.turnover_settings.specs.declared.Stage.TheVariants.{Opening, Setting, Stepping, Ended}
use Rattle.turnover_commands.specs.Run.{Standing, silent, last_number, step_made, stepping, set_up_in, first, setting, obeyed_in, obeyed, closed_in, closed}
use Rattle.turnover_session.specs.Turnover.{transcript, beginning, turnover}
use Rattle.std.proofs.Common.{Option, None, Some}
use Rattle.turnover_listing.specs.Marked.{line_of}
use Rattle.turnover_listing.specs.Refusals.{Refusals}
use Rattle.turnover_listing.proofs.LineParts.{behind_digits, behind-number, Fine, Says, nothing, Lines, no_lines, one_more, fine_at}
use Rattle.turnover_listing.proofs.Reached.{Reached, refused_there, reached_step, Unset}
use Rattle.turnover_listing.proofs.Keeps.{HoldsIn, Holds, holds_first, Keeps, keeps_silent, keeps_bad, keeps_opening, keeps_allow, keeps_link, keeps_setup, says_step}

-- a register number of a command is one that a step can have
register_fits_lem : (g : ℕ) → g < 4294967296 → register_fits g ≡ true
register_fits_lem g h = le-leb g 4294967295 (omega arith)

-- ---- steps
module _ (s : Standing) (e : s.run.stage ≡ Stepping) (r : Reached s.area) where
  known_there : (p : Step) (k : ℕ) → (step_on p s.area).answer ≡ refused k → (4 ≤ k) × (k ≤ 8)
  known_there p k q = known_refusals r.network r.made r.rules r.steps p k (refused_there s.area r p k q)

  -- one of station i
  keeps_step : (i : ℕ) (p : Step) → step_fits p ≡ true → Keeps (step_made s.run s.block i (step_on p s.area))
  keeps_step i p f =
      by_test (eqb s.run.number last_number)
      (λ q. rw q (record { holds = tt; says = nothing refl }))
      (λ q. rw q (record { holds = rw e (reached_step s.area r p f); says = says_step _ i s.run.n _ (known_there p) }))

  keeps_stepping : (c : Command) → command_fits c ≡ true → Keeps (stepping s c)
  keeps_stepping (Enter i g) f = keeps_step i (enter i g) (register_fits_lem g (below2 i 8 g 4294967296 f).1)
  keeps_stepping (Send i j g) f = keeps_step i (send i j g) (register_fits_lem g (below3 i 8 j 8 g 4294967296 f).2)
  keeps_stepping (Recv i j) f = keeps_step i (recv i j) refl
  keeps_stepping (Start i) f = keeps_step i (start i) refl
  keeps_stepping (Net n t) f = keeps_bad s Stepping e r
  keeps_stepping (Allow i a) f = keeps_bad s Stepping e r
  keeps_stepping (Link i j l) f = keeps_bad s Stepping e r

-- the first sets up
keeps_first : (s : Standing) → Unset s → (c : Command) → command_fits c ≡ true → Keeps (first s c)
keeps_first s u c f = keeps_setup s u (stepping (set_up_in Stepping s) c) (λ r. keeps_stepping (set_up_in Stepping s) refl r c f)

keeps_setting : (s : Standing) → s.run.stage ≡ Setting → Unset s → (c : Command) → command_fits c ≡ true → Keeps (setting s c)
keeps_setting s e u (Allow i a) f = keeps_allow s e u i a f
keeps_setting s e u (Link i j l) f = keeps_link s e u i j l f
keeps_setting s e u (Net n t) f = keeps_bad s Setting e u
keeps_setting s e u (Enter i g) f = keeps_first s u (Enter i g) f
keeps_setting s e u (Send i j g) f = keeps_first s u (Send i j g) f
keeps_setting s e u (Recv i j) f = keeps_first s u (Recv i j) f
keeps_setting s e u (Start i) f = keeps_first s u (Start i) f

-- ---- in any stage: a command whose numbers fit, and any other line
keeps_in : (g : Stage) (s : Standing) → s.run.stage ≡ g → HoldsIn g s → (c : Command) → command_fits c ≡ true → Keeps (obeyed_in g s (Some c))
keeps_in Opening s e h c f = keeps_opening s e h c f
keeps_in Setting s e h c f = keeps_setting s e h c f
keeps_in Stepping s e h c f = keeps_stepping s e h c f
keeps_in Ended s e h c f = keeps_silent s (rw e tt)

keeps_bad_in : (g : Stage) (s : Standing) → s.run.stage ≡ g → HoldsIn g s → Keeps (obeyed_in g s None)
keeps_bad_in Opening s e h = keeps_bad s Opening e h
keeps_bad_in Setting s e h = keeps_bad s Setting e h
keeps_bad_in Stepping s e h = keeps_bad s Stepping e h
keeps_bad_in Ended s e h = keeps_silent s (rw e tt)

keeps_line : (s : Standing) → Holds s → (l : List ℕ) → Keeps (obeyed s (parse_of l))
keeps_line s h l = go (parse_of l) (parse_means l)
  where
    go : (r : Option Command) → Means l r → Keeps (obeyed s r)
    go (Some c) t = keeps_in s.run.stage s refl h c t.0
    go None n = keeps_bad_in s.run.stage s refl h

-- ---- the whole output
says_closed : (g : Stage) (s : Standing) → HoldsIn g s → Says (closed_in g s).text
says_closed Opening s h = nothing refl
says_closed Setting s h = (keeps_setup s h (silent (set_up_in Stepping s)) (keeps_silent (set_up_in Stepping s))).says
says_closed Stepping s h = nothing refl
says_closed Ended s h = nothing refl

lines_of_lem : (s : Standing) → Holds s → (ls : List (List ℕ)) → Lines (transcript s ls)
lines_of_lem s h [] = rw append-nil at (one_more (closed s).text [] (says_closed s.run.stage s h) no_lines)
lines_of_lem s h (l ∷ ls) = let k = keeps_line s h l in one_more _ _ k.says (lines_of_lem (obeyed s (parse_of l)).after k.holds ls)

-- ---- a line of it
module _ (input : List ℕ) where
  fine_line : (m : ℕ) → Fine (behind_digits (line_of (turnover input) m))
  unfolding turnover
  fine_line m =
      let y = lines_of_lem beginning holds_first (lines_of input) in
      rw (y.joins, lines_joined y.lines y.clean) (fine_at ([] ∷ y.lines) (fine_at [] tt 0, y.fine) m)

  of_step : (m k r : ℕ) → line_of (turnover input) m ≡ decimal k ++ ascii " no " ++ decimal r → (4 ≤ r) × (r ≤ 8)
  of_step m k r e = (fine_line m).of_step r (rw (e, append_assoc) (behind-number k (ascii "no " ++ decimal r)))

  of_setup : (m r : ℕ) → line_of (turnover input) m ≡ ascii "no " ++ decimal r → (r ≡ 1) ⊎ (r ≡ 3)
  unfolding behind_digits digit
  of_setup m r e = (fine_line m).of_setup r (rw e)

  -- of a step, where the number has one digit
  of_digit : (m k r : ℕ) → r < 10 → line_of (turnover input) m ≡ decimal k ++ (ascii " no " ++ ((48 + r) ∷ [])) → (4 ≤ r) × (r ≤ 8)
  of_digit m k r h e = of_step m k r (e ∙ rw (decimal-small r h, append_assoc))

  pub refusals : Refusals input
  refusals =
      record {
        of_step = λ m k r e. let h = of_step m k r e in (omega arith, omega arith);
        of_setup = of_setup;
        never_two = λ m k e. let h = of_digit m k 2 (omega arith) e in omega arith;
        never_nine = λ m k e. let h = of_digit m k 9 (omega arith) e in omega arith;
        never_nine_at_setup = λ m e. ⊎_elim (λ h. omega arith) (λ h. omega arith) (of_setup m 9 (e ∙ rw (decimal-small 9 (omega arith))));
      }
