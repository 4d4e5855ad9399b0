-- The text of a command, and what a line says. Assumes nothing.
use Rattle.std.specs.Prelude.{ℕ, ◌≡◌, Bool, true, cond, ◌&&◌, Option, None, Some, List, [], ◌∷◌, ◌++◌, eqb, ltb}
use Rattle.decimal.specs.Ascii.{ascii}
use Rattle.decimal.specs.Decimal.{parted}
use Rattle.turnover_input.specs.declared.command.Command.{Command}
use Rattle.turnover_input.specs.declared.command.Command.TheVariants.{Net, Allow, Link, Enter, Send, Recv, Start}

-- the limit that a link line means where it names none: document 02's sixteen
unfoldable pub default_limit : ℕ
default_limit = 16

-- a text of a command: its word, then its numbers; a brief one leaves out a limit that is the default
abbrev pub text_of : Bool → Command → List ℕ
text_of brief (Net n t) = ascii "net " ++ parted (n ∷ t ∷ [])
text_of brief (Allow i a) = ascii "allow " ++ parted (i ∷ a ∷ [])
text_of brief (Link i j l) = ascii "link " ++ parted (i ∷ j ∷ cond (brief && eqb l default_limit) [] (l ∷ []))
text_of brief (Enter i r) = ascii "enter " ++ parted (i ∷ r ∷ [])
text_of brief (Send i j r) = ascii "send " ++ parted (i ∷ j ∷ r ∷ [])
text_of brief (Recv i j) = ascii "recv " ++ parted (i ∷ j ∷ [])
text_of brief (Start i) = ascii "start " ++ parted (i ∷ [])

-- a command whose numbers their fields can hold: a station 0 to 7, n and a limit one byte, t and an allowance two, a register number four
abbrev pub command_fits : Command → Bool
command_fits (Net n t) = ltb n 256 && ltb t 65536
command_fits (Allow i a) = ltb i 8 && ltb a 65536
command_fits (Link i j l) = (ltb i 8 && ltb j 8) && ltb l 256
command_fits (Enter i r) = ltb i 8 && ltb r 4294967296
command_fits (Send i j r) = (ltb i 8 && ltb j 8) && ltb r 4294967296
command_fits (Recv i j) = ltb i 8 && ltb j 8
command_fits (Start i) = ltb i 8

-- a line is a text of the well-made command c
abbrev pub IsText : List ℕ → Command → Type 0
IsText line c = (command_fits c ≡ true) × ((brief : Bool) × (text_of brief c ≡ line))

-- what a line says: the well-made command of which it is a text, or none where it is a text of none
abbrev pub Means : List ℕ → Option Command → Type 0
Means line (Some c) = IsText line c
Means line None = (d : Command) → IsText line d → ⊥
