-- Some answers with the numbers that a host gets for them. Assumes nothing.
use Rattle.std.specs.Prelude.{ℕ, ◌≡◌, refl, [], Ok, Err}
use Rattle.clock.specs.declared.Verdict.TheVariants.{Before, After, Same, Unordered}
use Rattle.refusals.specs.declared.Refusal.TheVariants.{DifferentPhases}
use Rattle.reset.specs.State.{normal, mute, stand_by}
use Rattle.reset.specs.Steps.{Entry, refused, entry, mode_after}
use Rattle.area_calls.specs.Calls.{yes, no, rest_refused}
use Rattle.host_numbers.specs.Numbers.{step_number, rest_number, verdict_number}

-- a receipt with such news
abbrev receipt_with : ℕ → Entry
receipt_with b = record { kind = 3; station = 1; peer = 0; phase = 0; register = 502; counts = []; news = b }

pub record Worked : Type 0 where
  pub rests : (rest_number yes ≡ 100) × (rest_number no ≡ 101) × (rest_number (rest_refused 2) ≡ 2)
  pub verdicts : (verdict_number (Ok Before) ≡ 100) × (verdict_number (Ok After) ≡ 101) × (verdict_number (Ok Same) ≡ 102)
      × (verdict_number (Ok Unordered) ≡ 103) × (verdict_number (Err DifferentPhases) ≡ 10)
  -- receipts with their news
  pub entries : (step_number (entry (receipt_with 0)) ≡ 100) × (step_number (entry (receipt_with 1)) ≡ 101) × (step_number (entry (receipt_with 7)) ≡ 107)
  pub steps : (step_number (refused 7) ≡ 7) × (step_number (mode_after 1 normal 0) ≡ 1000) × (step_number (mode_after 1 mute 0) ≡ 1001)
      × (step_number (mode_after 1 stand_by 3) ≡ 1014) × (step_number (mode_after 1 normal 999999) ≡ 4000996)

pub worked : Worked
worked = record { rests = (refl, refl, refl); verdicts = (refl, refl, refl, refl, refl); entries = (refl, refl, refl); steps = (refl, refl, refl, refl, refl) }
