-- The lines that turnover prints. Assumes nothing.
use Rattle.std.specs.Prelude.{ℕ, ◌+◌, cond, List, [], ◌∷◌, ◌++◌, eqb, take}
use Rattle.decimal.specs.Ascii.{ascii}
use Rattle.decimal.specs.Decimal.{decimal, spaced, parted}

-- the number of a step, a word, the phase and the station
unfoldable pub opening : ℕ → List ℕ → ℕ → ℕ → List ℕ
opening number word phase station = decimal number ++ word ++ parted (phase ∷ station ∷ [])

-- an accepted entry up to its counts, those of the n stations
unfoldable pub entered : ℕ → ℕ → ℕ → List ℕ → ℕ → List ℕ
entered number phase station counts n = opening number (ascii " entry ") phase station ++ spaced (take n counts)

-- an accepted entry that is no receipt
unfoldable pub entry_text : ℕ → ℕ → ℕ → List ℕ → ℕ → List ℕ
entry_text number phase station counts n = entered number phase station counts n ++ ascii "\n"

-- a receipt, with its news behind the counts
unfoldable pub receipt_text : ℕ → ℕ → ℕ → List ℕ → ℕ → ℕ → List ℕ
receipt_text number phase station counts n news = entered number phase station counts n ++ ascii " " ++ decimal news ++ ascii "\n"

-- the modes are numbered: 0 normal, 1 mute, 2 stand-by
unfoldable pub mode_word : ℕ → List ℕ
mode_word mode = cond (eqb mode 0) (ascii "normal") (cond (eqb mode 1) (ascii "mute") (ascii "stand-by"))

-- another accepted step
unfoldable pub mode_text : ℕ → ℕ → ℕ → ℕ → List ℕ
mode_text number phase station mode = opening number (ascii " mode ") phase station ++ ascii " " ++ mode_word mode ++ ascii "\n"

-- a refused step
unfoldable pub refused_text : ℕ → ℕ → List ℕ
refused_text number refusal = decimal number ++ ascii " no " ++ decimal refusal ++ ascii "\n"

-- a refused setup
unfoldable pub setup_text : ℕ → List ℕ
setup_text refusal = ascii "no " ++ decimal refusal ++ ascii "\n"

-- any other line
abbrev pub bad_text : List ℕ
bad_text = ascii "bad\n"

-- ---- how long they can be
-- a number of 20 digits, a phase of 10, a space and a station of 3
abbrev pub longest_numbers : ℕ
longest_numbers = 34

-- eight counts of 5 digits, a space before each
abbrev pub longest_counts : ℕ
longest_counts = 48

-- a space and a number of 3 digits
abbrev pub longest_news : ℕ
longest_news = 4

-- `stand-by`
abbrev pub longest_mode : ℕ
longest_mode = 8

-- no line is longer: a receipt's numbers, ` entry `, its counts, its news and the line feed
abbrev pub longest : ℕ
longest = longest_numbers + 7 + longest_counts + longest_news + 1
