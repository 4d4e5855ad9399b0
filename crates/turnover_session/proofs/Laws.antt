-- An input that comes in parts: a line more, and the end. Assumes nothing.
use Prim.Native.Nat.{ℕ, suc, ◌+◌, ◌-◌, ◌≤◌}
use mathlib.Core.Path.{◌≡◌, refl, sym, ◌∙◌, ap, subst}
use mathlib.Core.Bool.{Bool, true, false, true≢false}
use mathlib.Core.List.{List, [], ◌∷◌, ◌++◌, append_assoc, append-nil}
use Rattle.std.proofs.Common.{Option}
use lib.Dec.{eqb}
use native.Mathlib.Omega.{arith}
use lib.ListN.{length, take, drop, length-drop}
use lib.Seq.{take_at, drop-drop}
use Rattle.turnover_output.specs.TextAt.{TextAt}
use Rattle.turnover_input.specs.Kept.{HoldsLine, Holds}
use Rattle.turnover_output.proofs.TextAtLaws.{text_none, text_more}
use Rattle.turnover_input.specs.Parse.{parse_of}
use Rattle.turnover_input.specs.declared.command.Command.{Command}
use Rattle.turnover_input.specs.Lines.{Split, unended, ended, split_from, and_then, all_of, ends, before, behind}
use Rattle.turnover_input.proofs.LineLaws.{split_append, split_first}
use Rattle.turnover_settings.specs.declared.Stage.TheVariants.{Ended}
use Rattle.turnover_commands.specs.Run.{Standing, standing_of, obeyed, obeyed_in, closed, closed_in}
use Rattle.turnover_session.specs.declared.Session.{Session}
use Rattle.turnover_session.specs.Turnover.{transcript, beginning, turnover, turnover_from, Goes, Passes, SessionPasses, Begins, Prints, Takes}

-- the whole input, before any of it has come
pub whole-input : (input : List ℕ) → turnover_from beginning [] input ≡ turnover input
unfolding turnover_from turnover
whole-input input = refl

-- ---- lines
behind_none : (d : List ℕ) → ends d ≡ false → behind d ≡ []
unfolding ends behind
behind_none [] h = refl
behind_none (x ∷ d) h = go (eqb x 10) refl (behind_none d)
  where
    go : (t : Bool) → eqb x 10 ≡ t → (ends d ≡ false → behind d ≡ []) → behind (x ∷ d) ≡ []
    go true e f = absurd (true≢false (rw e at h))
    go false e f = rw e (f (rw e at h))

split_line : (t d more : List ℕ) → ends d ≡ true → split_from t (d ++ more) ≡ ended (t ++ before d) (split_from [] (behind d ++ more))
split_line t d more h =
    let f : split_from t d ≡ ended (t ++ before d) (split_from [] (behind d)) = rw h at (split_first t d) in
    split_append t d more ∙ ap (λ (x : Split). and_then x more) f ∙ ap (ended (t ++ before d)) (sym (split_append [] (behind d) more))

split_part : (t d more : List ℕ) → ends d ≡ false → split_from t (d ++ more) ≡ split_from (t ++ before d) more
split_part t d more h =
    let f : split_from t d ≡ unended (t ++ before d) = rw h at (split_first t d) in
    split_append t d more ∙ ap (λ (x : Split). and_then x more) f

-- bytes with a line feed: the line that ends there is obeyed
whole_line : (s : Standing) (t d more : List ℕ) → ends d ≡ true
    → turnover_from s t (d ++ more) ≡ (obeyed s (parse_of (t ++ before d))).text ++ turnover_from (obeyed s (parse_of (t ++ before d))).after [] (behind d ++ more)
unfolding turnover_from
whole_line s t d more h = ap (λ (x : Split). transcript s (all_of x)) (split_line t d more h)

-- bytes without one: the line goes on
pub part_line : (s : Standing) (t d rest more : List ℕ) → ends d ≡ false → rest ≡ behind d → turnover_from s t (d ++ more) ≡ turnover_from s (t ++ before d) (rest ++ more)
unfolding turnover_from
part_line s t d rest more h e = rw (e, behind_none d h) (ap (λ (x : Split). transcript s (all_of x)) (split_part t d more h))

-- ---- where a run stands
pub line_taken : (s y : Standing) (c : Option Command) → y ≡ (obeyed s c).after → (t d rest more : List ℕ) → ends d ≡ true → rest ≡ behind d → c ≡ parse_of (t ++ before d)
    → turnover_from s t (d ++ more) ≡ (obeyed s c).text ++ turnover_from y [] (rest ++ more)
line_taken s y c e t d rest more h f q = rw (e, f, q) (whole_line s t d more h)

-- ---- parts of an input, one after the other
-- nothing was taken
pub goes_none : (s : Standing) (line : List ℕ) (have : ℕ) (input : List ℕ) → Goes s line have input [] s line have input
goes_none s line have input = record { whole = λ t k. (t, k, λ more. refl) }

-- more of an input was taken
pub goes_more : {s y z : Standing} {l m n a b c p q : List ℕ} {have after last : ℕ} → Goes s l have a p y m after b → Goes y m after b q z n last c
    → Goes s l have a (p ++ q) z n last c
goes_more {p = p} {q} f g =
    record {
      whole = λ t k.
          let x = f.whole t k in
          let y = g.whole x.0 x.1 in
          (y.0, y.1, λ more. x.2 more ∙ rw (y.2 more) (sym (append_assoc p q _)));
    }

-- more of an input has come
pub goes_on : {s y : Standing} {l m a p : List ℕ} {have after : ℕ} → Goes s l have a p y m after [] → (b : List ℕ) → Goes s l have (a ++ b) p y m after b
goes_on f b = record { whole = λ t k. let x = f.whole t k in (x.0, x.1, λ more. rw append_assoc (x.2 (b ++ more))) }

-- two inputs, each taken whole, one after the other
pub passes_more : {s y z : Standing} {l m n a b : List ℕ} {have after last : ℕ} → Passes s l have a y m after → Passes y m after b z n last → Passes s l have (a ++ b) z n last
passes_more {b = b} f g = (f.0 ++ g.0, goes_more (goes_on f.1 b) g.1)

-- all bytes were taken
pub goes-whole : {s y : Standing} {l m input p : List ℕ} {have after : ℕ} (rest : List ℕ) → Goes s l have input p y m after rest → length rest ≡ 0 → Passes s l have input y m after
goes-whole {p = p} [] g h = (p, g)
goes-whole (x ∷ rest) g h = absurd (omega arith)

-- a part of a part
part_more : {a b c : List ℕ} → (k : ℕ) × (k ≤ length a) × (b ≡ drop k a) → (k : ℕ) × (k ≤ length b) × (c ≡ drop k b) → (k : ℕ) × (k ≤ length a) × (c ≡ drop k a)
part_more {a} {b} {c} (k, h, e) (m, i, f) =
    let n : length b ≡ length a - k = rw e (length-drop k a) in
    (k + m, omega (arith, n), f ∙ rw e (drop-drop m k a))

pub length_part : {a b : List ℕ} → (k : ℕ) × (k ≤ length a) × (b ≡ drop k a) → length b ≤ length a
length_part {a} {b} (k, h, e) = rw e (omega (arith, length-drop k a))

-- what stands behind a line feed is the last of the bytes
pub behind_part : (d : List ℕ) → (k : ℕ) × (k ≤ length d) × (behind d ≡ drop k d)
unfolding behind
behind_part [] = (0, omega arith, refl)
behind_part (x ∷ d) = go (eqb x 10) refl (behind_part d)
  where
    go : (t : Bool) → eqb x 10 ≡ t → (k : ℕ) × (k ≤ length d) × (behind d ≡ drop k d) → (k : ℕ) × (k ≤ suc (length d)) × (behind (x ∷ d) ≡ drop k (x ∷ d))
    go true e p = (1, omega arith, rw e)
    go false e (k, h, q) = (suc k, omega arith, rw e q)

-- no bytes were taken, and more
pub takes_none : {n : ℕ} (s : Session n) (bytes out : List ℕ) (at : ℕ) → at ≤ length out → Takes s bytes out at bytes at s out
takes_none s bytes out at h = record { text = []; printed = text_none h; part = (0, omega arith, refl); goes = goes_none (standing_of s.state) s.line.bytes s.line.have bytes }

pub takes_more : {n : ℕ} {s y z : Session n} {bytes rest left old mid out : List ℕ} {at end last : ℕ} → Takes s bytes old at rest end y mid → Takes y rest mid end left last z out
    → Takes s bytes old at left last z out
takes_more f g =
    record {
      text = f.text ++ g.text;
      printed = text_more f.printed g.printed;
      part = part_more f.part g.part;
      goes = goes_more f.goes g.goes;
    }

-- ---- the end of input
pub end_none : (s : Standing) → turnover_from s [] [] ≡ (closed s).text
unfolding turnover_from split_from
end_none s = refl

pub end_line : (s y : Standing) (c : Option Command) → y ≡ (obeyed s c).after → (t : List ℕ) → (t ≡ [] → ⊥) → c ≡ parse_of t → turnover_from s t [] ≡ (obeyed s c).text ++ (closed y).text
unfolding turnover_from split_from
end_line s y c e [] n q = absurd (n refl)
end_line s y c e (x ∷ t) n q = rw (e, q)

text_taken : (old text out : List ℕ) (end : ℕ) → TextAt old 0 text end out → take end out ≡ text
text_taken old text out end w = let n : length text ≡ end = omega (arith, w.next) in rw w.is (take_at text _ end n)

-- a run that began with nothing set, took the input whole and printed what was left
pub all_printed : {y : Standing} {l m input old out : List ℕ} {have end : ℕ} → Passes beginning l 0 input y m have → ((t : List ℕ) → HoldsLine m have t → TextAt old 0 (turnover_from y t []) end out) → Prints out end
all_printed {y} {l} {m} {input} {old} {out} {have} {end} p w =
    let x = p.1.whole [] (record { count = refl; bytes = refl }) in
    record {
      input = input;
      before = p.0;
      all = sym (whole-input input) ∙ (rw append-nil at (x.2 [])) ∙ ap (λ (z : List ℕ). p.0 ++ z) (sym (text_taken old _ out end (w x.0 x.1)));
    }

-- the same of a session
pub session_printed : {n : ℕ} {s : Session n} {y : Standing} {m input old out : List ℕ} {have end : ℕ} → Begins s → Passes (standing_of s.state) s.line.bytes s.line.have input y m have
    → ((t : List ℕ) → HoldsLine m have t → TextAt old 0 (turnover_from y t []) end out) → Prints out end
session_printed {n} {s} {y} {m} {input} {old} {out} {have} b p w =
    all_printed (subst (λ (z : Standing). Passes z s.line.bytes 0 input y m have) b.stands
    (subst (λ (k : ℕ). Passes (standing_of s.state) s.line.bytes k input y m have) b.line.count p)) w

-- ---- behind a refused setup nothing is printed
silence : (s : Standing) → s.run.stage ≡ Ended → (ls : List (List ℕ)) → transcript s ls ≡ []
silence s e [] = ap (λ g. (closed_in g s).text) e
silence s e (l ∷ ls) =
    let o : obeyed s (parse_of l) ≡ obeyed_in Ended s (parse_of l) = ap (λ g. obeyed_in g s (parse_of l)) e in
    rw o (silence s e ls)

pub ended-silent : (s : Standing) → s.run.stage ≡ Ended → (line input : List ℕ) → turnover_from s line input ≡ []
unfolding turnover_from
ended-silent s e line input = silence s e (all_of (split_from line input))
