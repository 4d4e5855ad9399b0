-- A line is read as the command of which it is a text. Assumes nothing.
use Prim.Native.Nat.{ℕ, ◌<◌}
use mathlib.Core.Path.{◌≡◌, refl, ◌∙◌, sym, subst}
use mathlib.Core.Bool.{Bool, true, false, cond, ◌&&◌, false≢true}
use mathlib.Core.Logic.{◌↔◌}
use mathlib.Core.List.{List, [], ◌∷◌, ◌++◌}
use Rattle.std.proofs.Common.{Option, None, Some}
use native.Mathlib.Omega.{arith}
use lib.Dec.{eqb}
use lib.ListN.{length, drop}
use borrow.Author.Tests.{eqb-true, eq-eqb, ltb-true, lt-ltb}
use Rattle.decimal.specs.Ascii.{ascii}
use Rattle.decimal.specs.Decimal.{parted}
use Rattle.codec.proofs.EveryLaws.{both}
use Rattle.turnover_input.specs.Fields.{numbers_of}
use Rattle.turnover_input.proofs.NumberLaws.{Spells, numbers_one, numbers_two, numbers-three, numbers-sound}
use Rattle.turnover_input.specs.declared.fields.Numbers.{Numbers}
use Rattle.turnover_input.specs.declared.fields.Numbers.TheVariants.{One, Two, Three}
use Rattle.turnover_input.specs.Text.{default_limit, text_of, command_fits, IsText, Means}
use Rattle.turnover_input.specs.Parse.{made, of_one, of_two, of_three, link_of, starts_with, parse_of}
use Rattle.turnover_input.specs.declared.command.Command.{Command}
use Rattle.turnover_input.specs.declared.command.Command.TheVariants.{Net, Allow, Link, Enter, Send, Recv, Start}
use Rattle.turnover_input.proofs.MadeLaws.{below2, below3}
use Rattle.turnover_input.proofs.StartLaws.{start_split}

-- ---- a text is read as its command
parse_link_lem : (i j l : ℕ) (short : Bool) → (short ≡ true → l ≡ default_limit) → command_fits (Link i j l) ≡ true
    → parse_of (ascii "link " ++ parted (i ∷ j ∷ cond short [] (l ∷ []))) ≡ Some (Link i j l)
unfolding parse_of starts_with
parse_link_lem i j l true f e = let h = below3 i 8 j 8 l 256 e in rw (numbers_two i j (omega arith) (omega arith), ← f refl, e)
parse_link_lem i j l false f e = let h = below3 i 8 j 8 l 256 e in rw (numbers-three i j l (omega arith) (omega arith) (omega arith), e)

pub parse_text : (brief : Bool) (c : Command) → command_fits c ≡ true → parse_of (text_of brief c) ≡ Some c
unfolding parse_of starts_with
parse_text b (Net n t) e = let h = below2 n 256 t 65536 e in rw (numbers_two n t (omega arith) (omega arith), e)
parse_text b (Allow i a) e = let h = below2 i 8 a 65536 e in rw (numbers_two i a (omega arith) (omega arith), e)
parse_text b (Link i j l) e = parse_link_lem i j l (b && eqb l default_limit) (λ h. eqb-true l default_limit (both b (eqb l default_limit) h).1) e
parse_text b (Enter i r) e = let h = below2 i 8 r 4294967296 e in rw (numbers_two i r (omega arith) (omega arith), e)
parse_text b (Send i j r) e = let h = below3 i 8 j 8 r 4294967296 e in rw (numbers-three i j r (omega arith) (omega arith) (omega arith), e)
parse_text b (Recv i j) e = let h = below2 i 8 j 8 e in rw (numbers_two i j (omega arith) (omega arith), e)
parse_text b (Start i) e = let h = ltb-true i 8 e in rw (numbers_one i (omega arith), e)

-- ---- a link line says the limit that it writes, and without one 16
pub written-limit : (i j l : ℕ) → command_fits (Link i j l) ≡ true → parse_of (ascii "link " ++ parted (i ∷ j ∷ l ∷ [])) ≡ Some (Link i j l)
written-limit i j l e = parse_link_lem i j l false (λ h. absurd (false≢true h)) e

pub unwritten-limit : (i j : ℕ) → i < 8 → j < 8 → parse_of (ascii "link " ++ parted (i ∷ j ∷ [])) ≡ Some (Link i j 16)
unfolding default_limit
unwritten-limit i j f g = parse_link_lem i j 16 true (λ h. refl) (rw (lt-ltb i 8 f, lt-ltb j 8 g))

-- ---- what is read is the command of the text
abbrev Sound : List ℕ → Option Command → Type 0
Sound l (Some c) = IsText l c
Sound l None = Unit {0}

made-sound : (l : List ℕ) (c : Command) (brief : Bool) → text_of brief c ≡ l → Sound l (made c)
made-sound l c b t = go (command_fits c) refl
  where
    go : (w : Bool) → command_fits c ≡ w → Sound l (cond w (Some c) None)
    go true e = (e, (b, t))
    go false e = tt

-- a word w with numbers behind it
module _ (w m : List ℕ) where
  one_sound : (f : ℕ → Command) → ((a : ℕ) → text_of true (f a) ≡ w ++ parted (a ∷ [])) → (x : Option Numbers) → Spells m x → Sound (w ++ m) (of_one f x)
  one_sound f t (Some (One a)) e = made-sound _ (f a) true (rw e (t a))
  one_sound f t (Some (Two a b)) e = tt
  one_sound f t (Some (Three a b c)) e = tt
  one_sound f t None e = tt

  two_sound : (f : ℕ → ℕ → Command) → ((a b : ℕ) → text_of true (f a b) ≡ w ++ parted (a ∷ b ∷ [])) → (x : Option Numbers) → Spells m x → Sound (w ++ m) (of_two f x)
  two_sound f t (Some (One a)) e = tt
  two_sound f t (Some (Two a b)) e = made-sound _ (f a b) true (rw e (t a b))
  two_sound f t (Some (Three a b c)) e = tt
  two_sound f t None e = tt

  three-sound : (f : ℕ → ℕ → ℕ → Command) → ((a b c : ℕ) → text_of true (f a b c) ≡ w ++ parted (a ∷ b ∷ c ∷ [])) → (x : Option Numbers) → Spells m x
      → Sound (w ++ m) (of_three f x)
  three-sound f t (Some (One a)) e = tt
  three-sound f t (Some (Two a b)) e = tt
  three-sound f t (Some (Three a b c)) e = made-sound _ (f a b c) true (rw e (t a b c))
  three-sound f t None e = tt

link-sound : (m : List ℕ) (x : Option Numbers) → Spells m x → Sound (ascii "link " ++ m) (link_of x)
link-sound m (Some (One a)) e = tt
link-sound m (Some (Two i j)) e = made-sound _ (Link i j default_limit) true (rw (e, eq-eqb default_limit default_limit refl))
link-sound m (Some (Three i j l)) e = made-sound _ (Link i j l) false (rw e)
link-sound m None e = tt

word_sound : (w l : List ℕ) (f : Option Numbers → Option Command) → ((m : List ℕ) (x : Option Numbers) → Spells m x → Sound (w ++ m) (f x)) → starts_with w l ≡ true
    → Sound l (f (numbers_of (drop (length w) l)))
word_sound w l f s e =
    let m : List ℕ = drop (length w) l in
    subst (λ (k : List ℕ). Sound k (f (numbers_of m))) (start_split w l e) (s m (numbers_of m) (numbers-sound m))

-- a test that picks
pick : (l : List ℕ) (t : Bool) (c d : Option Command) → (t ≡ true → Sound l c) → Sound l d → Sound l (cond t c d)
pick l true c d f g = f refl
pick l false c d f g = g

parse_sound : (l : List ℕ) → Sound l (parse_of l)
unfolding parse_of
parse_sound l =
    pick l _ _ _ (word_sound (ascii "net ") l (of_two Net) (λ m. two_sound (ascii "net ") m Net (λ n t. refl)))
    (pick l _ _ _ (word_sound (ascii "allow ") l (of_two Allow) (λ m. two_sound (ascii "allow ") m Allow (λ i a. refl)))
    (pick l _ _ _ (word_sound (ascii "link ") l link_of link-sound)
    (pick l _ _ _ (word_sound (ascii "enter ") l (of_two Enter) (λ m. two_sound (ascii "enter ") m Enter (λ i r. refl)))
    (pick l _ _ _ (word_sound (ascii "send ") l (of_three Send) (λ m. three-sound (ascii "send ") m Send (λ i j r. refl)))
    (pick l _ _ _ (word_sound (ascii "recv ") l (of_two Recv) (λ m. two_sound (ascii "recv ") m Recv (λ i j. refl)))
    (pick l _ _ _ (word_sound (ascii "start ") l (of_one Start) (λ m. one_sound (ascii "start ") m Start (λ i. refl))) tt))))))

-- ---- what a line says
-- a line that is a text of a command is read as that command
pub parse_is : (l : List ℕ) (c : Command) → IsText l c → parse_of l ≡ Some c
parse_is l c t = rw t.1.1 at (parse_text t.1.0 c t.0)

-- the computed command is what the line says
pub parse_means : (l : List ℕ) → Means l (parse_of l)
parse_means l = go (parse_of l) refl (parse_sound l)
  where
    go : (r : Option Command) → parse_of l ≡ r → Sound l r → Means l r
    go (Some c) e t = t
    go None e t = λ d w. let n = e ∙ sym e in let p = parse_is l d w in cc

-- a line says one thing
pub means_parse : (l : List ℕ) (r : Option Command) → Means l r → r ≡ parse_of l
means_parse l (Some c) t = sym (parse_is l c t)
means_parse l None n = go (parse_of l) refl (parse_sound l)
  where
    go : (r : Option Command) → parse_of l ≡ r → Sound l r → None ≡ parse_of l
    go None e t = sym e
    go (Some c) e t = absurd (n c t)

pub means_exact : (l : List ℕ) (r : Option Command) → Means l r ↔ (r ≡ parse_of l)
means_exact l r = (means_parse l r, λ e. subst (λ (d : Option Command). Means l d) (sym e) (parse_means l))

pub one_meaning : (l : List ℕ) (r s : Option Command) → Means l r → Means l s → r ≡ s
one_meaning l r s a b = means_parse l r a ∙ sym (means_parse l s b)

-- for a call that answers the computed command
pub both_ways_lem : (l : List ℕ) (r : Option Command) → r ≡ parse_of l → (r ≡ parse_of l) × Means l r
both_ways_lem l r e = (e, (means_exact l r).1 e)
