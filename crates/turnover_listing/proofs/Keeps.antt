-- What holds of where a run of turnover stands, and that commands before setup and setup itself keep it and print at most one line. Assumes nothing.
use Prim.Native.Nat.{ℕ, ◌≤◌}
use native.Mathlib.Omega.{arith}
use mathlib.Core.Path.{◌≡◌, refl, sym, subst}
use mathlib.Core.Logic.{inl, inr}
use mathlib.Core.Bool.{true}
use Rattle.codec.proofs.BlankLaws.{blank-length}
use Rattle.reset.specs.Steps.{is_receipt, Answer, refused, entry, mode_after}
use Rattle.reset.proofs.Cases.{by_test}
use Rattle.turnover_input.specs.Text.{command_fits}
use Rattle.turnover_input.specs.declared.command.Command.{Command}
use Rattle.turnover_input.specs.declared.command.Command.TheVariants.{Net, Allow, Link, Enter, Send, Recv, Start}
use Rattle.turnover_input.proofs.MadeLaws.{below2, below3}
use Rattle.turnover_settings.specs.declared.Stage.{Stage}
use Rattle.turnover_settings.specs.declared.Stage.TheVariants.{Opening, Setting, Stepping, Ended}
use Rattle.turnover_settings.specs.Settings.{set_up}
use Rattle.turnover_commands.specs.Run.{Standing, Telling, silent, bad_line, step_text, set_up_in, with_setup, opening, setting}
use Rattle.turnover_session.specs.Turnover.{beginning}
use Rattle.turnover_listing.proofs.LineParts.{Says, nothing, says_entry, says_receipt, says_mode, says_refused, says_setup, says_bad}
use Rattle.turnover_listing.proofs.Reached.{Reached, Unset, typed_named, typed-allowed, link-long, SetsUp, refuses, accepts, sets_up}

-- what holds, by the stage
abbrev pub HoldsIn : Stage → Standing → Type 0
HoldsIn Opening s = Unset s
HoldsIn Setting s = Unset s
HoldsIn Stepping s = Reached s.area
HoldsIn Ended s = Unit {0}

abbrev pub Holds : Standing → Type 0
Holds s = HoldsIn s.run.stage s

pub holds_first : Holds beginning
holds_first = record { long = blank-length 512; empty = refl; typed = typed_named 0 0 (omega arith) (omega arith) }

-- it holds after a command too, which prints at most one line
pub record Keeps (t : Telling) : Type 0 where
  pub holds : Holds t.after
  pub says : Says t.text

pub keeps_silent : (s : Standing) → Holds s → Keeps (silent s)
keeps_silent s h = record { holds = h; says = nothing refl }

pub keeps_bad : (s : Standing) (g : Stage) → s.run.stage ≡ g → HoldsIn g s → Keeps (bad_line s)
keeps_bad s g e h = record { holds = subst (λ (x : Stage). HoldsIn x s) (sym e) h; says = says_bad }

-- ---- before setup
pub keeps_opening : (s : Standing) → s.run.stage ≡ Opening → Unset s → (c : Command) → command_fits c ≡ true → Keeps (opening s c)
keeps_opening s e u (Net n t) f =
    let h = below2 n 256 t 65536 f in
    keeps_silent _ (record { long = u.long; empty = u.empty; typed = typed_named n t h.0 h.1 })
keeps_opening s e u (Allow i a) f = keeps_bad s Opening e u
keeps_opening s e u (Link i j l) f = keeps_bad s Opening e u
keeps_opening s e u (Enter i g) f = keeps_bad s Opening e u
keeps_opening s e u (Send i j g) f = keeps_bad s Opening e u
keeps_opening s e u (Recv i j) f = keeps_bad s Opening e u
keeps_opening s e u (Start i) f = keeps_bad s Opening e u

module _ (s : Standing) (e : s.run.stage ≡ Setting) (u : Unset s) where
  pub keeps_allow : (i a : ℕ) → command_fits (Allow i a) ≡ true → Keeps (setting s (Allow i a))
  keeps_allow i a f =
      let h = below2 i 8 a 65536 f in
      keeps_silent _ (rw e (record { long = u.long; empty = u.empty; typed = typed-allowed s.run i a h.0 h.1 u.typed }))

  pub keeps_link : (i j l : ℕ) → command_fits (Link i j l) ≡ true → Keeps (setting s (Link i j l))
  keeps_link i j l f =
      let h = below3 i 8 j 8 l 256 f in
      keeps_silent _ (rw e (record { long = link-long s.block i j l h.0 h.1 u.long; empty = u.empty; typed = u.typed }))

-- setup, and what follows where it is accepted
pub keeps_setup : (s : Standing) → Unset s → (t : Telling) → (Reached (set_up_in Stepping s).area → Keeps t) → Keeps (with_setup s t)
keeps_setup s u t f = go (sets_up s u)
  where
    go : SetsUp (set_up s.block s.area s.run) → Keeps (with_setup s t)
    go (accepts e r) = rw e (f r)
    go (refuses (inl e)) = rw e (record { holds = tt; says = says_setup 1 (inl refl) })
    go (refuses (inr e)) = rw e (record { holds = tt; says = says_setup 3 (inr refl) })

-- ---- the line of a step, where its refusals are known
pub says_step : (k i n : ℕ) (x : Answer) → ((r : ℕ) → x ≡ refused r → (4 ≤ r) × (r ≤ 8)) → Says (step_text k i n x)
says_step k i n (refused r) h = says_refused k r (h r refl)
says_step k i n (entry e) h =
    by_test (is_receipt e)
    (λ b. rw b (says_receipt k e.phase i e.counts n e.news))
    (λ b. rw b (says_entry k e.phase i e.counts n))
says_step k i n (mode_after j m p) h = says_mode k p i _
