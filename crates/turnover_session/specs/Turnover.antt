-- What turnover prints for an input, whole (document 01, "turnover"). Assumes nothing.
use Rattle.std.specs.Prelude.{ℕ, ◌+◌, ◌≤◌, ◌<◌, ◌≡◌, List, [], ◌∷◌, ◌++◌, length, take, drop}
use Rattle.codec.specs.Every.{blank}
use Rattle.turnover_output.specs.TextAt.{TextAt}
use Rattle.turnover_output.specs.Answer.{longest}
use Rattle.turnover_input.specs.Parse.{parse_of}
use Rattle.turnover_input.specs.Lines.{split_from, all_of, lines_of}
use Rattle.turnover_input.specs.Kept.{HoldsLine, Holds}
use Rattle.turnover_settings.specs.Settings.{opened_run}
use Rattle.turnover_commands.specs.Run.{Standing, standing, standing_of, obeyed, closed}
use Rattle.turnover_session.specs.declared.Session.{Session}

-- what a run prints for the lines to come, and at their end
abbrev pub transcript : Standing → List (List ℕ) → List ℕ
transcript s [] = (closed s).text
transcript s (l ∷ ls) = (obeyed s (parse_of l)).text ++ transcript (obeyed s (parse_of l)).after ls

-- where a run stands before its first line: nothing is set
abbrev pub beginning : Standing
beginning = standing opened_run (blank 512) (blank 65536)

-- what turnover prints
unfoldable pub turnover : List ℕ → List ℕ
turnover input = transcript beginning (lines_of input)

-- ---- an input that comes in parts
-- what is printed for an input to come, where `line` has come of the line that it goes on with
unfoldable pub turnover_from : Standing → List ℕ → List ℕ → List ℕ
turnover_from s line input = transcript s (all_of (split_from line input))

-- an input was taken up to `rest`: whatever line it goes on with and whatever follows it, `text` and what is then to be printed is what was to
-- be printed before
pub record Goes (s : Standing) (line : List ℕ) (have : ℕ) (input text : List ℕ) (y : Standing) (new : List ℕ) (after : ℕ) (rest : List ℕ) : Type 0 where
  pub whole : (t : List ℕ) → HoldsLine line have t → (u : List ℕ) × HoldsLine new after u × ((more : List ℕ) → turnover_from s t (input ++ more) ≡ text ++ turnover_from y u (rest ++ more))

-- an input was taken whole, with whatever text
abbrev pub Passes : Standing → List ℕ → ℕ → List ℕ → Standing → List ℕ → ℕ → Type 0
Passes s line have input y new after = (text : List ℕ) × Goes s line have input text y new after []

-- the same two of the code's session
abbrev pub SessionGoes : {n : ℕ} → Session n → List ℕ → List ℕ → Session n → List ℕ → Type 0
SessionGoes s input text y rest = Goes (standing_of s.state) s.line.bytes s.line.have input text (standing_of y.state) y.line.bytes y.line.have rest

abbrev pub SessionPasses : {n : ℕ} → Session n → List ℕ → Session n → Type 0
SessionPasses s input y = (text : List ℕ) × SessionGoes s input text y []

-- nothing has come, and nothing is set
pub record Begins {n : ℕ} (s : Session n) : Type 0 where
  pub line : Holds s.line []
  pub stands : standing_of s.state ≡ beginning

-- the end of a run: what was printed before and what now stands in the buffer is all that turnover prints of an input
pub record Prints (out : List ℕ) (end : ℕ) : Type 0 where
  pub input : List ℕ
  pub before : List ℕ
  pub all : turnover input ≡ before ++ take end out

-- bytes were taken up to `rest`, the last of them, and the text of their answers stands in the buffer
pub record Takes {n : ℕ} (s : Session n) (bytes old : List ℕ) (at : ℕ) (rest : List ℕ) (end : ℕ) (y : Session n) (out : List ℕ) : Type 0 where
  pub text : List ℕ
  pub printed : TextAt old at text end out
  pub part : (k : ℕ) × (k ≤ length bytes) × (rest ≡ drop k bytes)
  pub goes : SessionGoes s bytes text y rest

-- one line, or a part of one: at most one answer
pub record OneLine (bytes rest : List ℕ) (at end : ℕ) : Type 0 where
  pub short : end ≤ at + longest
  pub on : 0 < length bytes → length rest < length bytes

-- as many lines as the buffer has room for: bytes are left only where an answer more may not fit
pub record AllThatFits (bytes : List ℕ) (at : ℕ) (out rest : List ℕ) (end : ℕ) : Type 0 where
  pub room : end ≤ length out
  pub on : 0 < length bytes → at + longest ≤ length out → length rest < length bytes
  pub left : 0 < length rest → length out < end + longest
