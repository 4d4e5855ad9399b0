-- Which ceilings have room for the one link of two stations (document 02, the limit of a link line without one). They hold: `ceilings` in
-- proofs/Ceilings. Assumes nothing.
use Rattle.std.specs.Prelude.{ℕ, ◌+◌, ◌≤◌, ◌<◌, ◌≡◌, List, [], ◌∷◌, ◌++◌, cond, ltb}
use Rattle.decimal.specs.Ascii.{ascii}
use Rattle.decimal.specs.Decimal.{decimal}
use Rattle.turnover_input.specs.Lines.{joined}
use Rattle.turnover_session.specs.Turnover.{turnover}

-- an input of two lines: two stations with ceiling t, and a link line
abbrev pub one_link : ℕ → List ℕ → List ℕ
one_link t line = joined ((ascii "net 2 " ++ decimal t) ∷ line ∷ [])

-- setup is refused with 3 below a least ceiling, and from there on accepted, which prints nothing
abbrev pub RoomFrom : ℕ → List ℕ → Type 0
RoomFrom least line = (t : ℕ) → 1 ≤ t → t < 65536 → turnover (one_link t line) ≡ cond (ltb t least) (ascii "no 3\n") []

pub record Ceilings : Type 0 where
  -- without a limit: two times 16
  pub unwritten : RoomFrom 32 (ascii "link 0 1")
  -- with one: two times that
  pub written : (l : ℕ) → 1 ≤ l → l ≤ 32 → RoomFrom (l + l) (ascii "link 0 1 " ++ decimal l)
