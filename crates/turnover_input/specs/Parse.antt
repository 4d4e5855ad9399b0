-- The command of a line, computed. Assumes nothing.
use Rattle.std.specs.Prelude.{ℕ, Bool, true, false, cond, Option, None, Some, List, [], ◌∷◌, eqb, drop}
use Rattle.decimal.specs.Ascii.{ascii}
use Rattle.turnover_input.specs.Fields.{numbers_of}
use Rattle.turnover_input.specs.declared.fields.Numbers.{Numbers}
use Rattle.turnover_input.specs.declared.fields.Numbers.TheVariants.{One, Two, Three}
use Rattle.turnover_input.specs.declared.command.Command.{Command}
use Rattle.turnover_input.specs.declared.command.Command.TheVariants.{Net, Allow, Link, Enter, Send, Recv, Start}
use Rattle.turnover_input.specs.Text.{command_fits, default_limit}

-- a command, if it is well made
abbrev pub made : Command → Option Command
made c = cond (command_fits c) (Some c) None

-- the command of one number, of two, of three
abbrev pub of_one : (ℕ → Command) → Option Numbers → Option Command
of_one f (Some (One a)) = made (f a)
of_one f (Some (Two a b)) = None
of_one f (Some (Three a b c)) = None
of_one f None = None

abbrev pub of_two : (ℕ → ℕ → Command) → Option Numbers → Option Command
of_two f (Some (One a)) = None
of_two f (Some (Two a b)) = made (f a b)
of_two f (Some (Three a b c)) = None
of_two f None = None

abbrev pub of_three : (ℕ → ℕ → ℕ → Command) → Option Numbers → Option Command
of_three f (Some (One a)) = None
of_three f (Some (Two a b)) = None
of_three f (Some (Three a b c)) = made (f a b c)
of_three f None = None

-- the command of two stations and a limit, or two stations alone
abbrev pub link_of : Option Numbers → Option Command
link_of (Some (One a)) = None
link_of (Some (Two i j)) = made (Link i j default_limit)
link_of (Some (Three i j l)) = made (Link i j l)
link_of None = None

-- a line starts with a word
unfoldable pub starts_with : List ℕ → List ℕ → Bool
starts_with [] l = true
starts_with (x ∷ w) [] = false
starts_with (x ∷ w) (y ∷ l) = cond (eqb x y) (starts_with w l) false

-- the command that a line says: by its first word, and the numbers behind it
unfoldable pub parse_of : List ℕ → Option Command
parse_of l =
    cond (starts_with (ascii "net ") l) (of_two Net (numbers_of (drop 4 l)))
    (cond (starts_with (ascii "allow ") l) (of_two Allow (numbers_of (drop 6 l)))
    (cond (starts_with (ascii "link ") l) (link_of (numbers_of (drop 5 l)))
    (cond (starts_with (ascii "enter ") l) (of_two Enter (numbers_of (drop 6 l)))
    (cond (starts_with (ascii "send ") l) (of_three Send (numbers_of (drop 5 l)))
    (cond (starts_with (ascii "recv ") l) (of_two Recv (numbers_of (drop 5 l)))
    (cond (starts_with (ascii "start ") l) (of_one Start (numbers_of (drop 6 l))) None))))))
