-- A line of any length in 32 bytes. Assumes nothing.
use Rattle.std.specs.Prelude.{ℕ, min, ◌<◌, ◌≤◌, ◌≡◌, Option, None, Some, is_some, List, [], ◌++◌, length, take}
use Rattle.std.specs.Borrow.{Bor}
use Rattle.turnover_input.specs.declared.line.Line.{Line}
use Rattle.turnover_input.specs.Lines.{ends, before, behind}

-- how many bytes of a line are kept
abbrev pub line_size : ℕ
line_size = 32

-- the first `have` bytes of the buffer are the line, as far as the buffer holds it
pub record HoldsLine (buffer : List ℕ) (have : ℕ) (line : List ℕ) : Type 0 where
  pub count : have ≡ min line_size (length line)
  pub bytes : take have buffer ≡ take line_size line

-- the line has come as far as this
abbrev pub Holds : Line → List ℕ → Type 0
Holds l line = HoldsLine l.bytes l.have line

-- the bytes that are left
abbrev pub left : Option (Bor (List ℕ)) → List ℕ
left None = []
left (Some x) = x.now

-- the line has gone on from `old` to `new` by the bytes up to the first line feed, or to the end where there is none; what stands behind a line
-- feed is left
pub record Fills (old : Line) (bytes : List ℕ) (r : Option (Bor (List ℕ))) (new : Line) : Type 0 where
  pub inside : length (left r) ≤ length bytes
  pub on : 0 < length bytes → length (left r) < length bytes
  pub whole : is_some r ≡ ends bytes
  pub rest : left r ≡ behind bytes
  pub line : (t : List ℕ) → Holds old t → Holds new (t ++ before bytes)
