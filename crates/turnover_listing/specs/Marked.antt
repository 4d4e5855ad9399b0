-- The twelve cases that document 01 marks (M): steps 3 to 10 are lines of what turnover prints for the listing's input; 4 and 10 end in the news of
-- their receipts (document 02).
-- They hold: `marked` in proofs/Marked. Assumes nothing.
use Rattle.std.specs.Prelude.{ℕ, ◌≡◌, List, [], ◌∷◌, ◌++◌, get_or, replicate}
use Rattle.checksum.specs.Check.{check_of}
use Rattle.clock.specs.Order.{verdict_of}
use Rattle.clock.specs.declared.Verdict.TheVariants.{Before, Unordered}
use Rattle.decimal.specs.Ascii.{ascii}
use Rattle.turnover_input.specs.Lines.{lines_of}
use Rattle.turnover_session.specs.Turnover.{turnover}
use Rattle.turnover_listing.specs.Listing.{listing_input}

-- line k of an output, from 1
abbrev pub line_of : List ℕ → ℕ → List ℕ
line_of text k = get_or ([] ∷ lines_of text) k []

-- line k of what turnover prints for the listing's input
abbrev pub output : ℕ → List ℕ
output k = line_of (turnover listing_input) k

-- two counts, and none of the other stations
abbrev pub two : ℕ → ℕ → List ℕ
two a b = a ∷ b ∷ replicate 6 0

pub record Marked : Type 0 where
  pub step_3 : output 3 ≡ ascii "3 mode 0 1 mute"
  pub step_4 : output 4 ≡ ascii "4 entry 0 1 2 1 1"
  pub step_5 : output 5 ≡ ascii "5 mode 1 0 stand-by"
  pub step_6 : output 6 ≡ ascii "6 mode 1 1 stand-by"
  pub step_7 : output 7 ≡ ascii "7 mode 1 1 normal"
  pub step_8 : output 8 ≡ ascii "8 entry 1 1 0 1"
  pub step_9 : output 9 ≡ ascii "9 mode 1 0 normal"
  pub step_10 : output 10 ≡ ascii "10 entry 1 0 1 1 1"
  -- timestamps 1 0 / 2 1 before; 0 1 / 1 0 unordered
  pub before : verdict_of (two 1 0) (two 2 1) ≡ Before
  pub unordered : verdict_of (two 0 1) (two 1 0) ≡ Unordered
  -- check 1 for 510 zero bytes; 64,530 when only byte 509 is 255
  pub check_zeros : check_of (replicate 510 0) ≡ 1
  pub check_last : check_of (replicate 509 0 ++ (255 ∷ [])) ≡ 64530
