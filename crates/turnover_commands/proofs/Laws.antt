-- Setup and steps leave the image of a well-formed state, and the code's answer prints as the network's. Assumes nothing.
use Prim.Native.Nat.{ℕ}
use mathlib.Core.Path.{◌≡◌, refl, sym, ◌∙◌, ap, subst}
use mathlib.Core.List.{List}
use mathlib.Core.Bool.{Bool, true, false, cond}
use lib.Dec.{eqb}
use borrow.Author.Tests.{eqb-false}
use Rattle.codec.specs.Num.{AreBytes}
use Rattle.codec.specs.Written.{Written}
use Rattle.reset.specs.Clock.{vector}
use Rattle.reset.specs.State.{normal, mute, stand_by}
use Rattle.reset.specs.Steps.{Step, Answer, refused, entry, mode_after}
use Rattle.reset.specs.Network.{initial}
use Rattle.reset.specs.WellFormed.{step_fits}
use Rattle.reset.proofs.ClockRange.{vector-range}
use Rattle.reset.proofs.Formed.{initial-well_formed, step_well_formed}
use Rattle.rules.specs.Setup.{block_config}
use Rattle.rules.proofs.Laws.{accepted-well_made}
use Rattle.area.specs.Layout.{config_at, state_at, test}
use Rattle.area.proofs.Exact.{formed_fits, image-passes}
use Rattle.area_calls.specs.Calls.{setup_on, step_on}
use Rattle.area_calls.proofs.Demand3.{setup-accepts as accepted}
use Rattle.step_parts.specs.Answers.{stepped_of, step_view, SteppedView}
use Rattle.step_parts.specs.declared.answer.Accepted.{Accepted}
use Rattle.refusals.specs.declared.Refusal.{Refusal}
use Rattle.step_parts.specs.Does.{Does}
use Rattle.network.proofs.Laws.{done}
use Rattle.turnover_settings.specs.declared.Run.{Run}
use Rattle.turnover_settings.specs.Settings.{settings_block, set_up}
use Rattle.turnover_commands.specs.Run.{Standing, step_text, code_text, obeyed_in, obeyed, Replies}
use Rattle.turnover_settings.specs.declared.Stage.{Stage}
use Rattle.turnover_input.specs.declared.command.Command.{Command}
use Rattle.std.proofs.Common.{Option, Result}

-- a step leaves the image of a well-formed state
pub step_ready : (p : Step) (a : List ℕ) → AreBytes a → test a ≡ true → step_fits p ≡ true → test (step_on p a).area ≡ true
unfolding step_on
step_ready p a b h f = rw h (image-passes (config_at a) _ (step_well_formed vector-range (config_at a) (state_at a) (formed_fits a b h) p f))

-- so does an accepted setup
pub setup_ready : (block a : List ℕ) → AreBytes block → (setup_on block a).answer ≡ 0 → test (setup_on block a).buffer ≡ true
setup_ready block a b h =
    let p = accepted block a h in
    let c = block_config block in
    rw p.2 (image-passes c (initial vector c) (initial-well_formed vector-range c (accepted-well_made block b p.0) p.1))

pub set_up_ready : (block a : List ℕ) (run : Run) → AreBytes (settings_block block run).buffer → (set_up block a run).answer ≡ 0 → test (set_up block a run).buffer ≡ true
unfolding set_up
set_up_ready block a run b h = go (eqb (settings_block block run).answer 0) refl h
  where
    W : Bool → Written
    W x = cond x (setup_on (settings_block block run).buffer a) (record { answer = (settings_block block run).answer; buffer = a })

    go : (x : Bool) → eqb (settings_block block run).answer 0 ≡ x → (W x).answer ≡ 0 → test (W x).buffer ≡ true
    go true e h = setup_ready (settings_block block run).buffer a b h
    go false e h = absurd (eqb-false _ 0 e h)

-- what a step over such an area gives
pub step_told : (p : Step) (a b : List ℕ) (r : Result Accepted Refusal) → AreBytes a → test a ≡ true → step_fits p ≡ true → Does p a r b
    → (step_view r ≡ stepped_of (step_on p a).answer) × (b ≡ (step_on p a).area) × (test b ≡ true)
step_told p a b r y h f d =
    let s = done p a r b h d in
    (s.answer, s.area, rw s.area (step_ready p a y h f))

-- ---- what is printed
-- the line of an answer
same_text : (number i n : ℕ) (x : Answer) → code_text number i n (stepped_of x).event (stepped_of x).answer ≡ step_text number i n x
same_text number i n (refused k) = refl
same_text number i n (entry e) = refl
same_text number i n (mode_after j normal p) = refl
same_text number i n (mode_after j mute p) = refl
same_text number i n (mode_after j stand_by p) = refl

pub told_text : (number i n : ℕ) (s : SteppedView) (x : Answer) → s ≡ stepped_of x → code_text number i n s.event s.answer ≡ step_text number i n x
told_text number i n s x e = ap (λ (y : SteppedView). code_text number i n y.event y.answer) e ∙ same_text number i n x

-- a command by the stage
pub in_stage : {old out : List ℕ} {at end : ℕ} {y : Standing} (s : Standing) (g : Stage) → s.run.stage ≡ g → (c : Option Command) → Replies (obeyed_in g s c) old at end y out
    → Replies (obeyed s c) old at end y out
in_stage {old} {out} {at} {end} {y} s g e c t = subst (λ (x : Stage). Replies (obeyed_in x s c) old at end y out) (sym e) t
