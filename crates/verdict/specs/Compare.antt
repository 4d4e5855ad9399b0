-- The verdict on two records (document 01, "Plain network and recorded order"). Assumes nothing.
use Rattle.std.specs.Prelude.{ℕ, List, ◌&&◌, cond, eqb, Result, Ok, Err}
use Rattle.clock.specs.declared.Verdict.{Verdict}
use Rattle.clock.specs.Order.{verdict_of}
use Rattle.record.specs.Record.{parse_record, well_made_record}
use Rattle.refusals.specs.declared.Refusal.{Refusal}
use Rattle.refusals.specs.declared.Refusal.TheVariants.{Malformed, DifferentPhases}

-- records of one phase are compared by their timestamps; different phases are 10
unfoldable pub verdict_of_bytes : List ℕ → List ℕ → Result Verdict Refusal
verdict_of_bytes a b =
    cond (eqb (parse_record a).phase (parse_record b).phase)
    (Ok (verdict_of (parse_record a).counts (parse_record b).counts))
    (Err DifferentPhases)

-- bytes that are no record are 1
unfoldable pub verdict_on : List ℕ → List ℕ → Result Verdict Refusal
verdict_on a b = cond (well_made_record a && well_made_record b) (verdict_of_bytes a b) (Err Malformed)
