-- Which refusals turnover prints (document 02, CR 9). They hold of every input: `refusals` in proofs/Refusals. Assumes nothing.
use Rattle.std.specs.Prelude.{ℕ, ◌≤◌, ◌≡◌, ◌≢◌, ◌⊎◌, List, ◌++◌}
use Rattle.decimal.specs.Ascii.{ascii}
use Rattle.decimal.specs.Decimal.{decimal}
use Rattle.turnover_session.specs.Turnover.{turnover}
use Rattle.turnover_listing.specs.Marked.{line_of}

pub record Refusals (input : List ℕ) : Type 0 where
  -- of a step 4 to 8
  pub of_step : (m k r : ℕ) → line_of (turnover input) m ≡ decimal k ++ ascii " no " ++ decimal r → (4 ≤ r) × (r ≤ 8)
  -- of setup 1 or 3
  pub of_setup : (m r : ℕ) → line_of (turnover input) m ≡ ascii "no " ++ decimal r → (r ≡ 1) ⊎ (r ≡ 3)
  -- so never 2 for a step, and never 9
  pub never_two : (m k : ℕ) → line_of (turnover input) m ≢ decimal k ++ ascii " no 2"
  pub never_nine : (m k : ℕ) → line_of (turnover input) m ≢ decimal k ++ ascii " no 9"
  pub never_nine_at_setup : (m : ℕ) → line_of (turnover input) m ≢ ascii "no 9"
