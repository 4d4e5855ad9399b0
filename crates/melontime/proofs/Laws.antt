-- The code's numbers are the definition's, and a step's call returns them. Assumes nothing.
use Prim.Native.Nat.{ℕ}
use mathlib.Core.Path.{◌≡◌, refl, sym, ap, ◌∙◌}
use mathlib.Core.List.{List}
use lib.ListN.{length}
use borrow.Author.Tests.{eq-eqb, ne_eqb}
use Rattle.codec.specs.Splice.{splice}
use Rattle.codec.proofs.SpliceLaws.{splice_all}
use Rattle.record.specs.Record.{image_record}
use Rattle.record.specs.declared.Record.{Record}
use Rattle.record.proofs.Laws.{image-length}
use Rattle.reset.specs.State.{normal, mute, stand_by}
use Rattle.reset.specs.Steps.{Step, Answer, refused, entry, mode_after}
use Rattle.std.specs.Prelude.{Result, Ok}
use Rattle.refusals.specs.declared.Refusal.{Refusal}
use Rattle.step_parts.specs.Answers.{stepped_of, step_view, SteppedView}
use Rattle.step_parts.specs.declared.answer.Accepted.{Accepted}
use Rattle.step_parts.specs.declared.answer.Accepted.TheVariants.{Entry, InMode}
use Rattle.station.specs.declared.Mode.{Mode as CodeMode}
use Rattle.area_calls.specs.Calls.{step_on}
use Rattle.network.specs.Answers.{Steps}
use Rattle.host_numbers.specs.Numbers.{record_length, area_length, step_number, code_number}
use Rattle.melontime.specs.Calls.{host_step, record_after, event_after, Returns}

numbered : (o : Answer) → code_number (stepped_of o).answer ≡ step_number o
numbered (refused k) = refl
numbered (entry e) = refl
numbered (mode_after i normal p) = refl
numbered (mode_after i mute p) = refl
numbered (mode_after i stand_by p) = refl

recorded : (d : List ℕ) (o : Answer) → event_after d (stepped_of o) ≡ record_after d o
recorded d (refused k) = refl
recorded d (entry e) = refl
recorded d (mode_after i m p) = refl

-- a record area of another length
pub unfit : {p : Step} {a d : List ℕ} → (length d ≡ record_length → ⊥) → Returns p a d area_length a d
unfolding host_step
unfit {d = d} h = let e = ne_eqb (length d) record_length h in record { number = rw e; area = rw e; event = rw e }

-- the answer told
pub answered : {p : Step} {a d : List ℕ} {s : Result Accepted Refusal} {q : ℕ} {b f : List ℕ} → length d ≡ record_length → Steps p a s b → (q ≡ code_number (step_view s).answer) × (f ≡ event_after d (step_view s)) → Returns p a d q b f
unfolding host_step
answered {p} {a} {d} h k t =
    let e = eq-eqb (length d) record_length h in
    let o = (step_on p a).answer in
    record {
      number = rw e (t.0 ∙ (ap (λ (x : SteppedView). code_number x.answer) k.answer ∙ numbered o));
      area = rw e k.area;
      event = rw e (t.1 ∙ (ap (λ (x : SteppedView). event_after d x) k.answer ∙ recorded d o));
    }

-- an accepted entry's record is written, and another answer leaves the bytes
pub entry_after : {o : Result Accepted Refusal} {x : Accepted} {r : Record} {n : ℕ} (d : List ℕ) {f : List ℕ} → o ≡ Ok x → x ≡ Entry r n
    → length d ≡ record_length → f ≡ splice d 0 (image_record r) → f ≡ event_after d (step_view o)
entry_after {r = r} d p q h e = rw (p, q) (e ∙ splice_all d (image_record r) (image-length r ∙ sym h))

pub mode_after_lem : {o : Result Accepted Refusal} {x : Accepted} {m : CodeMode} {n : ℕ} {d f : List ℕ} → o ≡ Ok x → x ≡ InMode m n → f ≡ d → f ≡ event_after d (step_view o)
mode_after_lem p q e = rw (p, q) e
