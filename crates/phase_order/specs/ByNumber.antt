-- The verdict on two records of an archive, by their numbers. Assumes nothing.
use Rattle.std.specs.Prelude.{ℕ, List, ◌&&◌, cond, ltb, Result, Ok, Err}
use Rattle.clock.specs.declared.Verdict.{Verdict}
use Rattle.archive.specs.Archive.{archive_test, records}
use Rattle.events.specs.Events.{event_at}
use Rattle.refusals.specs.declared.Refusal.{Refusal}
use Rattle.refusals.specs.declared.Refusal.TheVariants.{Malformed, NoSuchRecord, IllKept}
use Rattle.well_kept.specs.WellKept.{well_kept}
use Rattle.phase_order.specs.PhaseOrder.{verdict_between}

-- bytes that are no archive are 1, no such record is 12, an archive that is not well kept is 13; else the verdict
unfoldable pub order_of : List ℕ → ℕ → ℕ → Result Verdict Refusal
order_of a i j =
    cond (archive_test a)
    (cond (ltb i (records a) && ltb j (records a)) (cond (well_kept a) (Ok (verdict_between a (event_at a i) (event_at a j))) (Err IllKept)) (Err NoSuchRecord))
    (Err Malformed)
