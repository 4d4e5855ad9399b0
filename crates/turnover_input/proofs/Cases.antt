-- Lines and what they say. Assumes nothing.
use mathlib.Core.Path.{◌≡◌, refl}
use Rattle.std.proofs.Common.{None, Some}
use mathlib.Core.List.{[], ◌∷◌, ◌++◌, map}
use lib.ListN.{replicate}
use Rattle.decimal.specs.Ascii.{ascii}
use Rattle.decimal.specs.Decimal.{digit}
use Rattle.turnover_input.specs.Fields.{stuck, more, first, item, numbers_of}
use Rattle.turnover_input.specs.Text.{default_limit}
use Rattle.turnover_input.specs.Parse.{starts_with, parse_of}
use Rattle.turnover_input.specs.Lines.{split_from, lines_of}
use Rattle.turnover_input.specs.declared.command.Command.TheVariants.{Net, Allow, Link, Enter, Send, Recv, Start}

-- a line of each kind
pub good_lines : map parse_of (lines_of (ascii "net 2 7\nallow 0 3\nlink 0 1 2\nlink 0 1\nenter 0 501\nsend 0 1 502\nrecv 1 0\nstart 1\n"))
    ≡ Some (Net 2 7) ∷ Some (Allow 0 3) ∷ Some (Link 0 1 2) ∷ Some (Link 0 1 16) ∷ Some (Enter 0 501) ∷ Some (Send 0 1 502) ∷ Some (Recv 1 0) ∷ Some (Start 1) ∷ []
unfolding split_from parse_of starts_with numbers_of first more item stuck digit default_limit
good_lines = refl

-- the ends of the fields
pub end_lines : map parse_of (lines_of (ascii "net 255 65535\nnet 0 0\nallow 7 65535\nlink 7 7 255\nenter 7 4294967295\nsend 7 0 4294967295\n"))
    ≡ Some (Net 255 65535) ∷ Some (Net 0 0) ∷ Some (Allow 7 65535) ∷ Some (Link 7 7 255) ∷ Some (Enter 7 4294967295) ∷ Some (Send 7 0 4294967295) ∷ []
unfolding split_from parse_of starts_with numbers_of first more item stuck digit
end_lines = refl

-- numbers past their fields, leading zeros and signs, other spacing, other bytes, fields too few and too many, other words
pub bad_lines : map parse_of (lines_of (ascii "net 256 5\nnet 1 65536\nallow 8 0\nallow 0 65536\nlink 0 8\nlink 0 1 256\nenter 0 4294967296\nenter 0 18446744073709551617\n"
    ++ ascii "start 00\nstart 01\nstart +1\nstart -0\n start 1\nstart 1 \nstart  1\nstart\t1\nstart 1\r\nstart 1\0\nstart 1\u{80}\n"
    ++ ascii "start\nstart \nstart 1 1\nsend 0 1 2 3\nsend 0 1\nstar 1\nstarts 1\nStart 1\nstart1\n\n"))
    ≡ replicate 29 None
unfolding split_from parse_of starts_with numbers_of first more item stuck digit
bad_lines = refl
